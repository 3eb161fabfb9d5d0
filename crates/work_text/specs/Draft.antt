-- The writes of a text so far.
use Rattle.std.specs.Prelude.{◌≡◌, ◌+◌, ◌≤◌, List, ℕ, filter, length, map, nat_le, not, All, false, None, Some, Result, Ok, Err}
use Rattle.stack_base.specs.PoolId.{pool_number}
use Rattle.stack_base.specs.declared.stack.Stack.{Stack}
use Rattle.layout_model.specs.declared.write.Write.{Write}
use Rattle.layout_model.specs.declared.counts.Needs.{Needs}
use Rattle.layout_model.specs.NeedCounts.{IsNeeds}
use Rattle.layout_model.specs.Bound.{IsBound, most_elements}
use Rattle.layout_model.specs.Writes.{AreWritesOf, IsWrite}
use Rattle.decl_text.specs.Known.{Declarations, device_of, present}
use Rattle.decl_text.specs.Checks.{is_empty_list}
use Rattle.decl_text.specs.Accepting.{shown_devices}
use Rattle.decl_text.specs.Refusals.{first_found}
use Rattle.decl_text.specs.declared.line.LineFault.{LineFault}
use Rattle.decl_text.specs.declared.reason.ReadFault.{ReadFault}
use Rattle.decl_text.specs.declared.reason.Reason.{Reason}
use Rattle.decl_text.specs.declared.item.Item.{Item}
use Rattle.decl_text.specs.declared.item.Item.TheVariants as item
use Rattle.work_text.specs.Work.{as_written, change_of, known_of, last_round, all_checks}
use Rattle.work_text.specs.declared.Resize.{Resize}
use Rattle.work_text.specs.declared.Work.{Work}
use Rattle.work_text.specs.Lines.{AddsWork, ReadsNumbered}
use Rattle.work_text.specs.Marks.{is_member, AreMarks}
use Rattle.work_text.specs.declared.draft.Draft.{Draft}

-- what is known behind the lines of this work, so many of which are `sync` lines
abbrev pub known_with : Stack → Work → ℕ → Declarations
known_with stack work syncs =
    record (known_of stack) { writes = map as_written work.writes.items; rounds = work.rounds.items; syncs = syncs; resizes = map change_of work.resizes.items }

abbrev pub known_so_far : Stack → Draft → Declarations
known_so_far stack draft = known_with stack draft.work draft.syncs

-- what is told passes all checks by what a draft knows so far, and the draft knows it then, or this check finds it
abbrev pub AddsToDraft : Stack → Draft → Item → Draft → Result (Unit {0}) LineFault → Type 0
AddsToDraft stack before said after_it result = AddsWork (known_so_far stack before) said (known_so_far stack after_it) result

-- the line with this number is not refused, and the draft knows what it says then, or it is refused so
abbrev pub DraftReads : Stack → ℕ → List ℕ → Draft → Result (Unit {0}) ReadFault → Draft → Type 0
DraftReads stack number line before result after_it =
    ReadsNumbered (known_so_far stack before) number line (known_so_far stack after_it) result

-- the stack serves the writes, they need so much, and the marks tell of those of the present round
pub record IsDraft (stack : Stack) (draft : Draft) : Type 0 where
  pub bound : IsBound stack draft.work.writes.items draft.work.bound.z draft.work.bound
  pub served : AreWritesOf stack draft.work.writes.items
  pub paired : length draft.work.rounds.items ≡ length draft.work.writes.items
  -- no write is of a later round
  pub past : All (λ round. round ≤ draft.syncs) draft.work.rounds.items
  pub few_syncs : draft.syncs ≤ 1024
  pub few_resizes : length draft.work.resizes.items ≤ 4096
  pub pools : All (λ (resize : Resize). pool_number resize.pool ≤ 65) draft.work.resizes.items
  pub written : draft.is_written ≡ not (is_empty_list (present (known_so_far stack draft)))
  pub marks : AreMarks stack (draft.syncs + 1) (present (known_so_far stack draft)) draft.marks.items

-- the write as a line says it that names its device so
abbrev pub item_with : List ℕ → Write → Item
item_with name write = item.Write write.task name (record { start = write.start; len = write.count }) write.tag

-- what a write needs that the stack serves and that may stand behind these
pub record CanFollow (stack : Stack) (draft : Draft) (write : Write) (needs : Needs) : Type 0 where
  pub needed : IsNeeds stack write needs
  pub served : IsWrite stack write
  pub top : is_member stack write.dev.0 ≡ false
  pub allowed : draft.work.bound.e + needs.elements ≤ most_elements

-- however a line names its device, no check finds a write and it needs so much, or this check finds it first
abbrev pub ChecksWrite : Stack → Draft → Write → Result Needs Reason → Type 0
ChecksWrite stack draft write (Ok needs) =
    ((name : List ℕ) → device_of (shown_devices stack) name ≡ Some write.dev.0 → first_found all_checks (known_so_far stack draft) (item_with name write) ≡ None)
    × CanFollow stack draft write needs
ChecksWrite stack draft write (Err reason) =
    (name : List ℕ) → device_of (shown_devices stack) name ≡ Some write.dev.0 → first_found all_checks (known_so_far stack draft) (item_with name write) ≡ Some reason

-- this is left of the work when all lines were read: what stands behind the last write is not, and the rest counts
pub record IsLeftOf (work left : Work) : Type 0 where
  pub writes : left.writes.items ≡ work.writes.items
  pub rounds : left.rounds.items ≡ work.rounds.items
  pub resizes : left.resizes.items ≡ filter (λ (resize : Resize). nat_le resize.round (last_round work.rounds.items)) work.resizes.items
  pub bound : left.bound ≡ record { e = work.bound.e; g = work.bound.g; z = work.bound.z + last_round left.rounds.items + length left.resizes.items }
