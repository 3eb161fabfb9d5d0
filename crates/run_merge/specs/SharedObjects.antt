-- What is left of objects that were shared, as histories of entries and as a state of runs.
use Rattle.std.specs.Prelude.{◌≡◌, ◌-◌, ◌≤◌, List, All, map, slice_index_or}
use Rattle.std.specs.Option.{is_some}
use Rattle.tick_clock.specs.Tickets.{PassState, ticket_numbers}
use Rattle.run_machine.specs.Laws.{Object, OfPool, OfRescuer, OfDisk, OfBook, OfTally, OfNone}
use Rattle.run_machine.specs.Opened.{no_task}
use Rattle.run_machine.specs.Runs.{State}
use Rattle.run_machine.specs.Tasks.{TaskState}
use Rattle.task_steps.specs.Routed.{routing_setup}
use Rattle.task_core.specs.declared.opening.Opened.{Opened}
use Rattle.task_core.specs.Plains.{stage_of}
use Rattle.task_core.specs.opened.OfOne.{IsOpened, scenario_in, states}
use Rattle.object_things.specs.Histories.{Call, ticketed_in, or_last}
use Rattle.object_things.specs.Stamps.{ThingState}
use Rattle.shared_objects.specs.Closes.{Returned, ClosesAs}
use Rattle.shared_objects.specs.Kinds.{ThingAt}
use Rattle.shared_objects.specs.Logs.{is_event}
use Rattle.shared_objects.specs.Passes.{found_by}
use Rattle.run_merge.specs.Closing.{MergeIsEndedRun}
use Rattle.run_merge.specs.Merging.{Ticketed, Histories}
use Rattle.run_merge.specs.ObjectsByName.{StateAt, made_of}

-- a call as an entry with the ticket that it carries; the seats of the task at a place have the number that is one more
abbrev pub ticketed : Call → Ticketed
ticketed call = record { entry = record { place = call.by - 1; asked = call.asked; reply = call.told.reply }; ticket = or_last 0 call.told.ticket }

-- The histories of these objects, as the entries that carry a ticket. Looks and calls that were refused carry none, and are dropped.
abbrev pub entry_histories : List Object → (Object → List Call) → Histories
entry_histories names history = map (λ name. (name, map ticketed (ticketed_in (history name)))) names

-- a call drew a ticket exactly where it is an event, each event one, and no look; and its entry carries just that one
abbrev pub DrewAsEvent : Call → Type 0
DrewAsEvent call = (is_some call.told.drawn ≡ is_event call.asked call.told.reply) × (call.told.ticket ≡ call.told.drawn)

-- what a thing is as an object of runs
abbrev pub seen_at : (name : Object) → ThingAt name → StateAt name
seen_at (OfPool number) pool = pool.state
seen_at (OfRescuer dev) list = list.bios
seen_at (OfDisk dev) disk = disk
seen_at (OfBook writer) book = book
seen_at OfTally tally = tally
seen_at OfNone none = none

-- what is left, as a state of runs
abbrev pub tasks_left : List Returned → List TaskState
tasks_left tasks = map (λ (task : Returned). task.task) tasks

abbrev pub state_left : ((name : Object) → ThingState (ThingAt name)) → List Returned → State
state_left left tasks =
    record { objects = made_of (λ name. seen_at name (left name).object); task = λ place. slice_index_or (tasks_left tasks) place no_task }

-- What a close shows of objects and tasks as they were opened of a text, where the first pass has found what those of the tasks have: the merge of
-- the histories is a run that has ended and leaves what is left, and its entries, which are those that carry a ticket, are the events among all calls.
abbrev pub ClosesAreRuns : Type 0
ClosesAreRuns = (opened : Opened) (names : List Object) (history : Object → List Call) (left : (name : Object) → ThingState (ThingAt name))
    (tasks : List Returned) (pass : PassState) → IsOpened opened
    → map (λ (task : Returned). task.first) tasks ≡ states opened.tasks.items
    → ClosesAs (routing_setup (stage_of opened.objects).routing) opened.objects names history left tasks pass
    → All (λ (task : Returned). found_by task.desk.pass ≤ pass.known) tasks
    → MergeIsEndedRun (scenario_in opened) (stage_of opened.objects).ledger (entry_histories names history) (ticket_numbers pass.drawn) (state_left left tasks)
    × ((name : Object) → All DrewAsEvent (history name))
