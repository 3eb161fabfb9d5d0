-- The trace of a run by threads.
use Rattle.std.specs.Prelude.{◌≡◌, ℕ, List, map}
use Rattle.std.specs.List.{flat_map}
use Rattle.tick_clock.specs.Tickets.{PassState}
use Rattle.run_machine.specs.declared.event.Event.{Event}
use Rattle.run_machine.specs.Laws.{Object}
use Rattle.run_machine.specs.Runs.{State}
use Rattle.run_machine.specs.Scene.{Setup}
use Rattle.task_steps.specs.Routed.{routing_setup}
use Rattle.task_core.specs.declared.opening.Opened.{Opened}
use Rattle.task_core.specs.Plains.{stage_of}
use Rattle.task_core.specs.opened.OfOne.{IsOpened, scenario_in, states}
use Rattle.object_things.specs.Histories.{Call}
use Rattle.object_things.specs.Stamps.{ThingState}
use Rattle.shared_objects.specs.Closes.{Returned, ClosesAs}
use Rattle.shared_objects.specs.Kinds.{ThingAt}
use Rattle.shared_objects.specs.Noting.{notes_of}
use Rattle.run_merge.specs.Joining.{IsJoinedByTicket}
use Rattle.run_merge.specs.Merging.{without_tickets, sorted_by_ticket, all_of}
use Rattle.run_merge.specs.Products.{AreOfRun}
use Rattle.run_merge.specs.SharedObjects.{entry_histories}

-- the events that the calls of these tasks were, each with its ticket, task by task
abbrev pub notes_in : Setup → List Returned → List (ℕ × Event)
notes_in setup tasks = flat_map (λ (task : Returned). notes_of setup task.first task.log) tasks

-- Of what a close shows of objects and tasks as they were opened of a text: what all tasks noted, joined by tickets, are the events of each run
-- whose entries are the merge of the histories.
abbrev pub NotesAreRuns : Type 0
NotesAreRuns = (opened : Opened) (names : List Object) (history : Object → List Call) (left : (name : Object) → ThingState (ThingAt name))
    (tasks : List Returned) (pass : PassState) → IsOpened opened → map (λ (task : Returned). task.first) tasks ≡ states opened.tasks.items
    → ClosesAs (routing_setup (stage_of opened.objects).routing) opened.objects names history left tasks pass
    → (joined : List Event) (last : State) → IsJoinedByTicket (notes_in (routing_setup (stage_of opened.objects).routing) tasks) joined
    → (run : AreOfRun (scenario_in opened) (stage_of opened.objects).ledger (without_tickets (sorted_by_ticket (all_of (entry_histories names history)))) last)
    → run.0 ≡ joined
