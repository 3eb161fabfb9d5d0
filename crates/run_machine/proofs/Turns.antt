-- Runs that are given event by event, for examples: each with the task's place, the reply, and what becomes of the objects.
use Rattle.std.proofs.Common.{◌≡◌, ◌==◌, ℕ, Bool, true, false, List, [], ◌∷◌, Some, refl, sym, subst, IsTrue, nat_lt}
use Rattle.std.proofs.lemmas.Bool.{eqb-true, ltb-true}
use Rattle.stack_base.proofs.ListLemmas.{Each}
use Rattle.mempool_core.specs.Move.{PoolMove, PoolState, after_move}
use Rattle.bio_records.specs.declared.bio.Pad.{Pad}
use Rattle.bio_records.specs.Items.{Item}
use Rattle.model_disks.specs.Disks.{DiskState}
use Rattle.bio_books.specs.Books.{BookState}
use Rattle.run_machine.specs.declared.event.Event.{Event}
use Rattle.run_machine.specs.Maps.{upd}
use Rattle.run_machine.specs.Scene.{Setup, Scene}
use Rattle.run_machine.specs.Requests.{Reply}
use Rattle.run_machine.specs.Tasks.{request, look_of, answered}
use Rattle.run_machine.specs.Objects.{Objects, Serves}
use Rattle.run_machine.specs.Events.{id_of, what_of}
use Rattle.run_machine.specs.Runs.{State, IsLet, Steps, IsRun}

pub record Turn : Type 0 where
  pub place : ℕ
  pub reply : Reply
  pub change : Objects → Objects

-- the state behind a turn
abbrev pub behind : Setup → State → Turn → State
behind setup old turn = record {
  objects = turn.change old.objects;
  task = upd old.task turn.place (answered setup (old.task turn.place) turn.reply);
}

abbrev pub follow : Setup → State → List Turn → State
follow setup old [] = old
follow setup old (turn ∷ turns) = follow setup (behind setup old turn) turns

-- a turn is a step of this event
abbrev pub Does : Scene → State → Turn → Event → Type 0
Does scene old turn event =
    IsTrue (nat_lt turn.place scene.tasks)
    × (event.task ≡ id_of (old.task turn.place))
    × IsLet scene.ledger old.objects (old.task turn.place) (look_of (old.task turn.place))
    × (what_of (request scene.setup (old.task turn.place)) turn.reply ≡ Some event.what)
    × Serves scene.ledger old.objects (request scene.setup (old.task turn.place)) turn.reply (turn.change old.objects)

abbrev pub AreTurns : Scene → State → List Turn → List Event → Type 0
AreTurns scene old [] [] = Unit {0}
AreTurns scene old (turn ∷ turns) (event ∷ events) = Does scene old turn event × AreTurns scene (behind scene.setup old turn) turns events
AreTurns scene old turns events = ⊥

unfoldable pub does_step : (scene : Scene) (old : State) (turn : Turn) (event : Event) → Does scene old turn event
    → Steps scene old turn.place event (behind scene.setup old turn)
does_step scene old turn event does = record {
  here = ltb-true turn.place scene.tasks does.0;
  by = does.1;
  is_let = does.2;
  reply = turn.reply;
  told = does.3;
  serves = does.4;
  goes_on = refl;
}

-- turns are a run
unfoldable pub turns_run : (scene : Scene) (old : State) (turns : List Turn) (events : List Event) → AreTurns scene old turns events
    → IsRun scene old events (follow scene.setup old turns)
turns_run scene old [] [] are = refl
turns_run scene old [] (event ∷ events) are = absurd are
turns_run scene old (turn ∷ turns) [] are = absurd are
turns_run scene old (turn ∷ turns) (event ∷ events) are =
    (behind scene.setup old turn, (turn.place, does_step scene old turn event are.0), turns_run scene (behind scene.setup old turn) turns events are.1)

-- the turns of each kind
abbrev pub takes : ℕ → Reply → ℕ → PoolMove → Turn
takes place reply number move = record {
  place = place;
  reply = reply;
  change = λ old. record old { pool = upd old.pool number (after_move (old.pool number) move) };
}

abbrev pub rescues : ℕ → Reply → ℕ → List (Item Pad) → Turn
rescues place reply dev bios = record { place = place; reply = reply; change = λ old. record old { rescue = upd old.rescue dev bios } }

abbrev pub on_disk : ℕ → Reply → ℕ → (DiskState → DiskState) → Turn
on_disk place reply dev change = record { place = place; reply = reply; change = λ old. record old { disk = upd old.disk dev (change (old.disk dev)) } }

abbrev pub in_book : ℕ → Reply → ℕ → (BookState → BookState) → Turn
in_book place reply writer change = record {
  place = place;
  reply = reply;
  change = λ old. record old { book = upd old.book writer (change (old.book writer)) };
}

-- Nothing is out of any pool: of these by what is shown of each, and of all others, whose numbers are none of these.
module _ (pools : ℕ → PoolState) where
  abbrev IsHome : ℕ → Type 0
  IsHome number = (pools number).facts.out ≡ 0

  one_home : (number : ℕ) (numbers : List ℕ) → Each IsHome numbers → (Each (λ other. (number == other) ≡ false) numbers → IsHome number) → IsHome number
  one_home number [] at others = others tt
  one_home number (other ∷ numbers) at others = by_test (number == other) refl (λ is. one_home number numbers at.1 (λ rest. others (is, rest)))
    where
      by_test : (b : Bool) → (number == other) ≡ b → ((number == other) ≡ false → IsHome number) → IsHome number
      by_test true is next = subst IsHome (sym (eqb-true number other is)) at.0
      by_test false is next = next is

  pub all_home : (numbers : List ℕ) → Each IsHome numbers → ((number : ℕ) → Each (λ other. (number == other) ≡ false) numbers → IsHome number)
      → (number : ℕ) → IsHome number
  all_home numbers at others number = one_home number numbers at (others number)
