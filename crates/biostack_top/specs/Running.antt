-- What a run of a text is that was made by the schedule of a number, or by threads, and what is told of it.
use Rattle.std.specs.Prelude.{◌≡◌, ◌≤◌, All, Bool, true, List, ℕ, length, sum_by, Option, Some, Result, Ok, Err}
use Rattle.outside_io.specs.declared.source.Failed.{Failed}
use Rattle.outside_io.specs.Saying.{Writes}
use Rattle.rand_pcg.specs.Lcg.{Lcg}
use Rattle.elem_ledger.specs.Ledger.{LedgerId}
use Rattle.layout_model.specs.declared.write.Write.{Write}
use Rattle.decl_text.specs.declared.accepted.Accepted.{Accepted}
use Rattle.work_text.specs.declared.Work.{Work}
use Rattle.task_core.specs.declared.ended.Ended.{Ended}
use Rattle.run_machine.specs.declared.event.Event.{Event}
use Rattle.task_core.specs.Leaving.{IsLeft}
use Rattle.task_core.specs.Plains.{stage_of}
use Rattle.task_core.specs.opened.OfOne.{IsOpened, scenario_in}
use Rattle.run_machine.specs.Opened.{Scenario, device_at, scene, start}
use Rattle.run_machine.specs.Runs.{State, IsRun, HasEnded}
use Rattle.run_machine.specs.Scenario.{scenario_of}
use Rattle.block_core.specs.Claim.{IsAsClaimed}
use Rattle.block_core.specs.Scenarios.{IsNaming}
use Rattle.run_machine.specs.Named.{FitsEvent, IsEventOf}
use Rattle.serial_run.specs.Schedule.{FollowsSchedule}
use Rattle.bio_workers.specs.Gates.{IsOfClosed, Showing}
use Rattle.run_merge.specs.Entries.{Entry, entries_in}
use Rattle.run_merge.specs.Merging.{all_of, without_tickets, sorted_by_ticket}
use Rattle.run_merge.specs.SharedObjects.{entry_histories}
use Rattle.work_text.specs.Generated.{generator}
use Rattle.run_merge.specs.declared.outcome.Outcome.{Outcome}
use Rattle.report_text.specs.CheckText.{steps_bound}
use Rattle.report_text.specs.Report.{Reported}
use Rattle.report_text.specs.Views.{told_of_objects}
use Rattle.biostack_top.specs.Streams.{SinkStream}
use Rattle.biostack_top.specs.Tracing.{IsTraceOf}

-- What makes a run: the schedule of a number, or threads, behind which a gate was shown this.
pub data Maker : Type 0 where
  ByNumber : (number : ℕ) → Maker
  ByThreads : (shown : Showing) → Maker

-- What was shown was opened of a scenario, and is what its objects showed when they were closed.
pub record IsShownOf (s : Scenario) (shown : Showing) : Type 0 where
  pub closed : IsOfClosed shown
  pub opened : IsOpened shown.opened
  pub of : scenario_in shown.opened ≡ s

-- how the elements of its pools are named
abbrev pub ledger_in : Showing → ℕ → LedgerId
ledger_in shown = (stage_of shown.opened.objects).ledger

-- what its histories come to: all their entries that carry a ticket, in the order of the tickets
abbrev pub merged_in : Showing → List Entry
merged_in shown = without_tickets (sorted_by_ticket (all_of (entry_histories shown.names shown.history)))

-- It has made this run: the run follows the words of the number, and each event has numbers that fit its fields; or its
-- entries are the merge of the histories that the gate was shown.
abbrev pub Makes : Maker → (s : Scenario) (ledger : ℕ → LedgerId) (events : List Event) (state : State)
    → IsRun (scene s ledger) (start s) events state → Type 0
Makes (ByNumber number) s ledger events state run =
    ((after : Lcg) × FollowsSchedule (scene s ledger) (start s) (generator number) events state after) × All FitsEvent events
Makes (ByThreads shown) s ledger events state run =
    IsShownOf s shown × (ledger ≡ ledger_in shown) × (entries_in (scene s ledger) (start s) events state run ≡ merged_in shown)

-- These are the events of a run of a scenario that was made so, and when it had ended it left this.
pub record HasRun (s : Scenario) (maker : Maker) (events : List Event) (ended : Ended) : Type 0 where
  pub ledger : ℕ → LedgerId
  pub naming : IsNaming ledger
  pub state : State
  pub run : IsRun (scene s ledger) (start s) events state
  pub made : Makes maker s ledger events state run
  pub ends : HasEnded state
  pub left : IsLeft s.stack state.objects (length events) ended
  -- each disk has its own number, and each event names what the stack has
  pub disks : (number : ℕ) → (state.objects.disk number).dev ≡ device_at number
  pub named : All (IsEventOf s.stack) events

-- A scenario was run by the schedule of a number, and this is what was left, and how the writing of these lines of its events ended.
abbrev pub WritesRun : {K : Type 0} → Scenario → ℕ → (List Event → List ℕ) → Ended × Result Unit Failed → SinkStream K → Type 0
WritesRun s number lines answer out =
    (events : List Event) × HasRun s (ByNumber number) events answer.0
    × Writes out.of out.old out.new answer.1 (lines events)

-- What the merge of what threads left comes to: the run that threads made, with its events where there is to be a trace; or
-- there was no memory for the trace.
abbrev pub HasOutcome : {E : Type 0} → Scenario → Bool → Showing → Result Outcome E → Type 0
HasOutcome s trace shown (Ok outcome) =
    (events : List Event) × HasRun s (ByThreads shown) events outcome.ended × IsTraceOf trace events outcome.events
HasOutcome s trace shown (Err lacking) = trace ≡ true

-- a gate was shown what threads left of a scenario, and the merge of that comes to this
abbrev pub ShowsOutcome : {E : Type 0} → Scenario → Bool → Option Showing → Result Outcome E → Type 0
ShowsOutcome s trace seen merged =
    (shown : Showing) × (seen ≡ Some shown) × IsShownOf s shown × HasOutcome s trace shown merged

-- every run of what the text means is as claimed, whatever comes next in it, and has no more events than the bound that is told of the text
abbrev pub EveryRunOfTextIsAsClaimed : Accepted → Work → Type 0
EveryRunOfTextIsAsClaimed accepted work = (ledger : ℕ → LedgerId) (events : List Event) (state : State) → IsNaming ledger
    → (run : IsRun (scene (scenario_of accepted work) ledger) (start (scenario_of accepted work)) events state)
    → IsAsClaimed (scenario_of accepted work) ledger events state run × (length events ≤ steps_bound work.bound)

-- These events are a run of what the text means, to its end. It is as claimed, and this is told of the objects that it leaves.
pub record EndsAsTold (accepted : Accepted) (work : Work) (ledger : ℕ → LedgerId) (events : List Event) (state : State) (left : Reported) : Type 0 where
  pub naming : IsNaming ledger
  pub run : IsRun (scene (scenario_of accepted work) ledger) (start (scenario_of accepted work)) events state
  pub ends : HasEnded state
  -- each of them names what the stack has
  pub named : All (IsEventOf accepted.stack) events
  pub claimed : IsAsClaimed (scenario_of accepted work) ledger events state run
  pub bounded : length events ≤ steps_bound work.bound
  pub told : left ≡ told_of_objects accepted.stack state.objects (length events) (steps_bound work.bound)

-- They are one that was made so.
pub record IsRunTold (accepted : Accepted) (work : Work) (maker : Maker) (events : List Event) (left : Reported) : Type 0 where
  pub ledger : ℕ → LedgerId
  pub state : State
  pub ended : EndsAsTold accepted work ledger events state left
  pub made : Makes maker (scenario_of accepted work) ledger events state ended.run

-- the sectors of writes together
abbrev pub sectors_of_writes : List Write → ℕ
sectors_of_writes writes = sum_by (λ (write : Write). write.count) writes
