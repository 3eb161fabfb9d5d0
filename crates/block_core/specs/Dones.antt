-- Writes that are told done, and rounds that start.
use Rattle.std.specs.Prelude.{◌≡◌, ◌+◌, ◌<◌, ◌≤◌, ℕ, List, [], ◌∷◌, length, slice_get, Contains, Some}
use Rattle.elem_ledger.specs.Ledger.{LedgerId}
use Rattle.stack_base.specs.declared.ids.Status.{Status}
use Rattle.run_machine.specs.declared.event.Event.{Event}
use Rattle.run_machine.specs.declared.event.What.{What}
use Rattle.run_machine.specs.declared.event.What.TheVariants as what
use Rattle.run_machine.specs.Opened.{Scenario, scene}
use Rattle.run_machine.specs.Runs.{State, Happens, unfinished}
use Rattle.block_core.specs.Scenarios.{InEveryRun}
use Rattle.block_core.specs.Rounds.{round_of, unfinished_of}
use Rattle.block_core.specs.Weights.{Weight, total_weight, one_if_same}

-- 1 where an event tells the write done
abbrev pub done_in : ℕ → What → ℕ
done_in write (what.Done other status) = one_if_same other write
done_in write what = 0

-- how often events tell a write done
abbrev pub times_done : ℕ → List Event → ℕ
times_done write [] = 0
times_done write (event ∷ events) = done_in write event.what + times_done write events

-- no run tells a write done twice
abbrev pub EachIsDoneOnce : Type 0
EachIsDoneOnce = InEveryRun (λ s ledger events state. (write : ℕ) → times_done write events ≤ 1)

-- the write with this number, while it is to be begun, or its top node is open, or what is left of that is carried
abbrev pub unfinished_write : ℕ → Weight
unfinished_write write = unfinished_of (λ number. one_if_same number write)

-- a write is unfinished until it is told done: it is the one or was the other, once
abbrev pub DoneOrUnfinished : Scenario → (ℕ → LedgerId) → List Event → State → Type 0
DoneOrUnfinished s ledger events state = (write : ℕ) → write < length s.writes → times_done write events + total_weight (scene s ledger) (unfinished_write write) state ≡ 1

-- the tally has the status with which each was told done
abbrev pub StatusesAreTold : List Event → State → Type 0
StatusesAreTold events state = (event : Event) (write : ℕ) (status : Status) → Contains events event → event.what ≡ what.Done write status
    → slice_get state.objects.tally.statuses write ≡ Some status

-- and where no write is unfinished, each was
abbrev pub AllAreDone : Scenario → List Event → Type 0
AllAreDone s events = (write : ℕ) → write < length s.writes → times_done write events ≡ 1

-- a write that is told done next is of the present round
abbrev pub DonesArePresent : Scenario → (ℕ → LedgerId) → State → Type 0
DonesArePresent s ledger state = (event : Event) (new : State) → Happens (scene s ledger) state event new → (write : ℕ) (status : Status) → event.what ≡ what.Done write status
    → round_of s.rounds write ≡ state.objects.tally.round

-- a round that starts next is the one behind it
abbrev pub RoundsAreNext : Scenario → (ℕ → LedgerId) → State → Type 0
RoundsAreNext s ledger state = (event : Event) (new : State) → Happens (scene s ledger) state event new → (round : ℕ) → event.what ≡ what.Round round
    → round ≡ state.objects.tally.round + 1

-- so it is in every run of every scenario
abbrev pub WritesAreUnfinishedUntilDone : Type 0
WritesAreUnfinishedUntilDone = InEveryRun DoneOrUnfinished

abbrev pub TallyHasStatuses : Type 0
TallyHasStatuses = InEveryRun (λ s ledger events state. StatusesAreTold events state)

abbrev pub NoneIsLeftUndone : Type 0
NoneIsLeftUndone = InEveryRun (λ s ledger events state. unfinished state ≡ 0 → AllAreDone s events)

abbrev pub WritesAreDoneInTheirRound : Type 0
WritesAreDoneInTheirRound = InEveryRun (λ s ledger events state. DonesArePresent s ledger state)

abbrev pub RoundsStartInTurn : Type 0
RoundsStartInTurn = InEveryRun (λ s ledger events state. RoundsAreNext s ledger state)
