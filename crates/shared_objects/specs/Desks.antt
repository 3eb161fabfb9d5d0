-- What a desk tells of its calls.
use Rattle.std.specs.Prelude.{◌≡◌, ◌⊎◌, ◌≤◌, ◌<◌, ℕ, Bool, Option, None, Some}
use Rattle.stack_base.specs.declared.ids.DevId.{DevId}
use Rattle.tick_clock.specs.Tickets.{PassState}
use Rattle.run_machine.specs.Laws.{object_of}
use Rattle.run_machine.specs.Requests.{Request, Reply, Complete, LeftOver, Nothing, Rest}
use Rattle.task_steps.specs.Views.{completed_index}
use Rattle.object_things.specs.Histories.{Call}
use Rattle.object_things.specs.Stamps.{Told, PassBy, is_spent}
use Rattle.shared_objects.specs.Calls.{CallsAt, struck, with_call}

-- A task at its desk: the number of its seats, its pass, which is away while an object is asked, and the calls that it has made.
pub record DeskState : Type 0 where
  pub number : ℕ
  pub pass : Option PassState
  pub calls : CallsAt

-- the pass went through a call
abbrev pub PassGoesOn : Option PassState → ℕ → Bool → Bool → Option ℕ → Option PassState → Type 0
PassGoesOn None note spent drew ticket after = ⊥
PassGoesOn (Some pass) note spent drew ticket None = ⊥
PassGoesOn (Some pass) note spent drew ticket (Some after) = PassBy pass note spent drew ticket after

-- One call was made. It stands last among the task's calls at the object that it asked.
pub record HasCalled (old : DeskState) (asked : Request) (reply : Reply) (new : DeskState) : Type 0 where
  pub told : Told
  pub replies : told.reply ≡ reply
  pub number : new.number ≡ old.number
  pub calls : new.calls ≡ with_call old.calls (object_of asked) (record { by = old.number; asked = asked; told = told })
  pub pass : PassGoesOn old.pass told.note (is_spent told.reply) told.drew told.drawn new.pass

-- A bio of a disk is completed by one look, where none waits, or by a look and a call behind it.
pub record LooksAndCompletes (old : DeskState) (disk : DevId) (reply : Reply) (new : DeskState) : Type 0 where
  pub count : ℕ
  pub between : DeskState
  pub looks : HasCalled old (Complete disk) (LeftOver count) between
  pub goes : ((count ≡ 0) × (reply ≡ Nothing) × (new ≡ between)) ⊎ ((0 < count) × HasCalled between (Complete disk) reply new)

-- What a desk serves: a call of the object, as its history keeps it.
abbrev pub DeskServes : DeskState → Request → Reply → DeskState → Type 0
DeskServes old Rest reply new = ⊥
DeskServes old (Complete disk) reply new = LooksAndCompletes old disk reply new
DeskServes old request reply new = HasCalled old (struck request) reply new

-- A bio was completed by the last call at a disk, whose entry keeps the index that was chosen. The disk's history tells that it is the bio at that
-- index, or the last one where fewer waited by then.
pub record CompletesChosen (disk : DevId) (chosen index : ℕ) (new : DeskState) : Type 0 where
  pub between : DeskState
  pub reply : Reply
  pub calls : HasCalled between (Complete disk) reply new
  pub picked : completed_index reply ≡ Some index
  pub kept : calls.told.chosen ≡ Some chosen
  pub most : index ≤ chosen

-- the look of a completion told that so many bios wait
abbrev pub DeskFinds : DeskState → DeskState → DevId → ℕ → Type 0
DeskFinds old new disk pending = (reply : Reply) × (completes : LooksAndCompletes old disk reply new) × (completes.count ≡ pending)

-- what became of a choice at a desk, where a bio was completed
abbrev pub DeskPicks : DeskState → DeskState → DevId → ℕ → ℕ → Option ℕ → Type 0
DeskPicks old new disk pending chosen (Some index) = CompletesChosen disk chosen index new × DeskFinds old new disk pending
DeskPicks old new disk pending chosen None = Unit {0}
