-- What is so when a write is told done: its fragments were completed, and its status is one that they give.
use Rattle.std.specs.Prelude.{◌≡◌, ◌<◌, ℕ, List, length, slice_get, Some}
use Rattle.elem_ledger.specs.Ledger.{LedgerId}
use Rattle.stack_base.specs.declared.ids.Status.{Status}
use Rattle.layout_model.specs.declared.fragment.Fragment.{Fragment}
use Rattle.layout_model.specs.declared.write.Write.{Write}
use Rattle.layout_model.specs.May.{MayEnd}
use Rattle.run_machine.specs.declared.event.Event.{Event}
use Rattle.run_machine.specs.declared.event.What.TheVariants as what
use Rattle.run_machine.specs.Opened.{Scenario, scene, start}
use Rattle.run_machine.specs.Runs.{State, Happens, IsRun, HasEnded}
use Rattle.block_core.specs.Scenarios.{InEveryRun, IsScenario, IsNaming}
use Rattle.block_core.specs.Fragments.{completed, fragment_count, IsOfScenario}

-- each fragment of the write with this number is among these, exactly once, and no other with its number
pub record HasAllFragments (s : Scenario) (write : ℕ) (fragments : List Fragment) : Type 0 where
  pub each : (f : Fragment) → f.write ≡ write → IsOfScenario s f → fragment_count f fragments ≡ 1
  pub only : (f : Fragment) → f.write ≡ write → 0 < fragment_count f fragments → IsOfScenario s f

-- where an event that comes next tells a write done, all of the write was completed
abbrev pub DoneIsCompleted : Type 0
DoneIsCompleted = (s : Scenario) (ledger : ℕ → LedgerId) (events : List Event) (state : State) → IsScenario s → IsNaming ledger
    → (run : IsRun (scene s ledger) (start s) events state) (event : Event) (new : State) → Happens (scene s ledger) state event new
    → (write : ℕ) (status : Status) → event.what ≡ what.Done write status → HasAllFragments s write (completed (scene s ledger) (start s) events state run)

-- the write with this number may end so, as its fragments end on their disks
abbrev pub WriteMayEnd : Scenario → ℕ → Status → Type 0
WriteMayEnd s number status = (write : Write) × (slice_get s.writes number ≡ Some write) × MayEnd s.stack write number status

-- and the status that the event tells is one with which the write may end
abbrev pub StatusesAreGiven : Type 0
StatusesAreGiven = InEveryRun (λ s ledger events state. (event : Event) (new : State) → Happens (scene s ledger) state event new
    → (write : ℕ) (status : Status) → event.what ≡ what.Done write status → WriteMayEnd s write status)

-- so where a run has ended, the tally has such a status for each write, and no other
pub record HasGivenStatuses (s : Scenario) (statuses : List Status) : Type 0 where
  pub all : length statuses ≡ length s.writes
  pub each : (number : ℕ) → number < length s.writes → (status : Status) × (slice_get statuses number ≡ Some status) × WriteMayEnd s number status

abbrev pub EndedStatusesAreGiven : Type 0
EndedStatusesAreGiven = InEveryRun (λ s ledger events state. HasEnded state → HasGivenStatuses s state.objects.tally.statuses)
