-- The claim, of every run of every scenario that can be run.
use Rattle.std.specs.Prelude.{◌≡◌, ◌+◌, ◌*◌, ◌^◌, ◌-◌, ◌<◌, ◌≤◌, ℕ, List, length}
use Rattle.elem_ledger.specs.Ledger.{LedgerId}
use Rattle.stack_base.specs.Stack.{HasRescuers}
use Rattle.stack_base.specs.declared.ids.Status.{Status}
use Rattle.mempool_core.specs.Facts.{AddsUp}
use Rattle.decl_text.specs.declared.accepted.Accepted.{Accepted}
use Rattle.work_text.specs.declared.Work.{Work}
use Rattle.run_machine.specs.declared.event.Event.{Event}
use Rattle.run_machine.specs.declared.event.What.TheVariants as what
use Rattle.run_machine.specs.Opened.{Scenario, scene, start}
use Rattle.run_machine.specs.ReadBehind.{IsReadBehind}
use Rattle.run_machine.specs.Scenario.{scenario_of}
use Rattle.run_machine.specs.Runs.{State, Happens, IsRun, unfinished, HasFree, HasEnded}
use Rattle.block_core.specs.Bounded.{most_steps}
use Rattle.block_core.specs.Breaks.{GoesUnrefused}
use Rattle.block_core.specs.DoneWrites.{HasAllFragments, WriteMayEnd, HasGivenStatuses}
use Rattle.block_core.specs.Dones.{DoneOrUnfinished, StatusesAreTold, AllAreDone}
use Rattle.block_core.specs.Exact.{NoneMissed, exact_steps}
use Rattle.block_core.specs.Fragments.{completed}
use Rattle.block_core.specs.Images.{HasLaidImages}
use Rattle.block_core.specs.Runnable.{IsRunnable}
use Rattle.block_core.specs.Scenarios.{IsNaming}
use Rattle.block_core.specs.Dones.{times_done}
use Rattle.block_core.specs.Sound.{IsSound}
use Rattle.block_core.specs.Waits.{NoneWaitsForItself}

pub record IsAsClaimed (s : Scenario) (ledger : ℕ → LedgerId) (events : List Event) (state : State) (run : IsRun (scene s ledger) (start s) events state) : Type 0 where
  -- the state is sound
  pub sound : IsSound s ledger events state run
  -- each pool adds up: what it has spare and what is out are its reserve and what ordinary memory gave
  pub pools : (number : ℕ) → AddsUp (state.objects.pool number).facts
  -- each write is told done once at most, and is unfinished until then; the tally has the status that was told
  pub once : (write : ℕ) → times_done write events ≤ 1
  pub until_done : DoneOrUnfinished s ledger events state
  pub tells : StatusesAreTold events state
  -- where an event that comes next tells it done, each of its fragments was completed, exactly once and no other, and its status is one that they
  -- give
  pub done : (event : Event) (new : State) → Happens (scene s ledger) state event new → (write : ℕ) (status : Status) → event.what ≡ what.Done write status
      → HasAllFragments s write (completed (scene s ledger) (start s) events state run)
  pub given : (event : Event) (new : State) → Happens (scene s ledger) state event new → (write : ℕ) (status : Status) → event.what ≡ what.Done write status
      → WriteMayEnd s write status
  -- no task waits for a bio of a set of which it has one in its lists, and none meets a refusal
  pub waits : NoneWaitsForItself (scene s ledger) state
  pub unrefused : GoesUnrefused (scene s ledger) state
  -- once no write is unfinished, the run has ended, and each write was told done
  pub ends : unfinished state ≡ 0 → HasEnded state
  pub all_done : unfinished state ≡ 0 → AllAreDone s events
  -- where the run has ended, each write has such a status, and the images are the laid-out ones
  pub statuses : HasEnded state → HasGivenStatuses s state.objects.tally.statuses
  pub images : HasEnded state → HasLaidImages s state
  -- and where no take missed besides, there are as many events as the layout fixes
  pub exact : HasEnded state → NoneMissed events → length events ≡ exact_steps s
  -- while a write is unfinished, an event can come next that needs no ordinary memory
  pub free : 1 ≤ unfinished state → HasFree (scene s ledger) state
  -- and there are no more events than eight an element, two a fragment, and one an entry, a round behind the first and a change of a reserve
  pub bounded : length events ≤ most_steps s
  -- so a ticket is left for each
  pub tickets : length events < 2 ^ 64 - 1

-- for every scenario that can be run and whose mirrors of two members or more have rescuers, in every interleaving
abbrev pub EveryRunIsAsClaimed : Type 0
EveryRunIsAsClaimed = (s : Scenario) (ledger : ℕ → LedgerId) (events : List Event) (state : State) → IsRunnable s → HasRescuers s.stack → IsNaming ledger
    → (run : IsRun (scene s ledger) (start s) events state) → IsAsClaimed s ledger events state run

-- so in every run of what a text means of which no line is refused, where its mirrors have rescuers; and it has no more events than the bound says
-- that was told of the text
abbrev pub AcceptedTextsRunAsClaimed : Type 0
AcceptedTextsRunAsClaimed = (accepted : Accepted) (work : Work) → IsReadBehind accepted work → HasRescuers accepted.stack
    → (ledger : ℕ → LedgerId) (events : List Event) (state : State) → IsNaming ledger
    → (run : IsRun (scene (scenario_of accepted work) ledger) (start (scenario_of accepted work)) events state)
    → IsAsClaimed (scenario_of accepted work) ledger events state run × (length events ≤ 8 * work.bound.e + 2 * work.bound.g + work.bound.z)
