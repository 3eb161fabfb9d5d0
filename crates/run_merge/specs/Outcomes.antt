-- What the merge of closed objects is: the entries of a run that has ended, and what that run leaves.
use Rattle.std.specs.Prelude.{◌≡◌, ℕ, false, List, All, IfSome, length, map, slice_get, slice_index_or, Some}
use Rattle.std.specs.Option.{is_some}
use Rattle.elem_ledger.specs.Ledger.{LedgerId}
use Rattle.run_machine.specs.declared.event.Event.{Event}
use Rattle.run_machine.specs.Laws.{Object}
use Rattle.run_machine.specs.Named.{IsEventOf}
use Rattle.run_machine.specs.Opened.{Scenario, device_at, no_task, scene, start}
use Rattle.run_machine.specs.Runs.{State, IsRun, HasEnded}
use Rattle.run_machine.specs.Tasks.{is_broken}
use Rattle.block_core.specs.Scenarios.{IsNaming}
use Rattle.task_core.specs.Leaving.{IsLeft}
use Rattle.task_core.specs.Plains.{stage_of}
use Rattle.task_core.specs.opened.OfOne.{scenario_in}
use Rattle.shared_objects.specs.Calls.{calls_at}
use Rattle.shared_objects.specs.ClosedByName.{history_in, object_left_in, names_in}
use Rattle.shared_objects.specs.Holding.{calls_of}
use Rattle.shared_objects.specs.declared.closed.Closed.{Closed}
use Rattle.shared_objects.specs.declared.closed.ClosedTask.{ClosedTask}
use Rattle.shared_objects.specs.declared.seats.TaskSeats.{TaskSeats}
use Rattle.run_merge.specs.declared.outcome.Outcome.{Outcome}
use Rattle.run_merge.specs.Entries.{entries_in}
use Rattle.run_merge.specs.Merging.{Histories, without_tickets, sorted_by_ticket, all_of, done_by}
use Rattle.run_merge.specs.ObjectsByName.{made_of}
use Rattle.run_merge.specs.SharedObjects.{DrewAsEvent, entry_histories, seen_at}

-- the scenario that was shared, and the ledgers of its pools
abbrev pub shared_scenario : Closed → Scenario
shared_scenario closed = scenario_in closed.told.value

abbrev pub shared_ledger : Closed → ℕ → LedgerId
shared_ledger closed = (stage_of closed.told.value.objects).ledger

-- the entries of the history of each object that carry a ticket
abbrev pub histories_in : Closed → Histories
histories_in closed = entry_histories (names_in closed) (history_in closed)

-- those of them that seats show
abbrev pub histories_by : Closed → TaskSeats → Histories
histories_by closed seats = entry_histories (names_in closed) (calls_at (calls_of seats))

-- the closed objects and tasks, as a state of runs
abbrev pub state_in : Closed → State
state_in closed = record {
  objects = made_of (λ name. seen_at name (object_left_in closed closed.told.value.objects name).object);
  task = λ place. slice_index_or (map (λ (task : ClosedTask). task.task.state) closed.tasks.items) place no_task;
}

-- The merge of the histories is the entries of a run from the opened state, which has ended and leaves the closed objects and tasks. No task broke
-- off, and the events of each are those that its seats show.
pub record IsOutcomeOf (closed : Closed) (outcome : Outcome) : Type 0 where
  pub events : List Event
  pub run : IsRun (scene (shared_scenario closed) (shared_ledger closed)) (start (shared_scenario closed)) events (state_in closed)
  pub merges : entries_in (scene (shared_scenario closed) (shared_ledger closed)) (start (shared_scenario closed)) events (state_in closed) run
      ≡ without_tickets (sorted_by_ticket (all_of (histories_in closed)))
  -- those entries are the events among all calls: no look drew a ticket, and no call was refused
  pub tickets : (name : Object) → All DrewAsEvent (history_in closed name)
  pub shows : (place : ℕ) (task : ClosedTask) → slice_get closed.tasks.items place ≡ Some task
      → done_by place (histories_in closed) ≡ sorted_by_ticket (all_of (histories_by closed task.seats.value))
  pub ends : HasEnded (state_in closed)
  pub unbroken : (place : ℕ) → is_broken ((state_in closed).task place) ≡ false
  -- this is what the run leaves
  pub left : IsLeft (shared_scenario closed).stack (state_in closed).objects (length events) outcome.ended
  -- the ledger of each pool and each disk have their own number, and each event names what the stack has
  pub naming : IsNaming (shared_ledger closed)
  pub disks : (number : ℕ) → ((state_in closed).objects.disk number).dev ≡ device_at number
  pub named : All (IsEventOf (shared_scenario closed).stack) events
  -- where there is a trace, and nowhere else, its events come with it
  pub traced : is_some outcome.events ≡ is_some closed.trace
  pub trace : IfSome outcome.events (λ list. list.items ≡ events)
