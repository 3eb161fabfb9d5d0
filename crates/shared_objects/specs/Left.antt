-- What is left of shared objects of which every task has stopped.
use Rattle.std.specs.Prelude.{◌≡◌, ◌-◌, ◌^◌, ◌≤◌, ℕ, List, All, length, map, min, Option, Some, IfSome}
use Rattle.std.specs.Global.{Vec}
use Rattle.run_machine.specs.Scene.{Setup}
use Rattle.task_steps.specs.Routed.{routing_setup}
use Rattle.task_core.specs.declared.plain.Plain.{Plain}
use Rattle.task_core.specs.Leaving.{IsReservedForRun}
use Rattle.task_core.specs.opened.OfOne.{IsOpened, scenario_in, states}
use Rattle.task_core.specs.Plains.{book_number, disk_number, list_number, records_number, set_number, stage_of}
use Rattle.shared_objects.specs.ClosedByName.{history_in, object_left_in, names_in}
use Rattle.shared_objects.specs.Closes.{ClosesAs, Returned}
use Rattle.shared_objects.specs.Holding.{desk_of, dev_key, set_key, slip_key, writer_key}
use Rattle.shared_objects.specs.Logs.{events_in}
use Rattle.shared_objects.specs.Noting.{notes_of, AreNoted, HaveTickets}
use Rattle.shared_objects.specs.Passes.{found_by}
use Rattle.shared_objects.specs.Rows.{Abreast}
use Rattle.shared_objects.specs.declared.closed.Closed.{Closed}
use Rattle.shared_objects.specs.declared.closed.ClosedTask.{ClosedTask}
use Rattle.shared_objects.specs.declared.noted.Noted.{Noted}

-- what is left of the locks of each kind stands in the order of the objects as they were opened
pub record AreInOpenedOrder (opened : Plain) (closed : Closed) : Type 0 where
  pub bios : map (λ entry. set_key entry.0) closed.bios.items ≡ map set_number opened.bios.items
  pub records : map (λ entry. slip_key entry.0) closed.records.items ≡ map records_number opened.records.items
  pub lists : map (λ entry. dev_key entry.0) closed.lists.items ≡ map list_number opened.lists.items
  pub disks : map (λ shut. shut.thing.object.dev.0) closed.disks.items ≡ map disk_number opened.disks.items
  pub books : map (λ entry. writer_key entry.0) closed.books.items ≡ map book_number opened.books.items

-- What is left of a task that was put back: as it was opened, as it is now, and with the seats of its desk. It counts the events among its calls, or
-- 2^64 - 1 where there are more.
pub record IsReturned (setup : Setup) (closed : ClosedTask) (returned : Returned) : Type 0 where
  pub first : closed.first.value.state ≡ returned.first
  pub task : closed.task.state ≡ returned.task
  pub desk : desk_of closed.seats.value ≡ returned.desk
  pub events : closed.events ≡ min (length (events_in returned.log)) (2 ^ 64 - 1)

-- what a task noted of its events are its notes
abbrev pub HasNoted : Setup → Noted → Returned → Type 0
HasNoted setup noted returned = HaveTickets returned.log → AreNoted (notes_of setup returned.first returned.log) (Some noted)

-- a trace has an entry for each of these tasks, at its place: what that one noted
abbrev pub IsNotedTrace : Setup → List Returned → Option (Vec Noted) → Type 0
IsNotedTrace setup returned trace = IfSome trace (λ (list : Vec Noted). Abreast (HasNoted setup) list.items returned)

-- What closed objects show: the opened objects, the history of each with what it leaves, and each task with its calls.
pub record HasClosed (closed : Closed) : Type 0 where
  pub opened : IsOpened closed.told.value
  pub returned : List Returned
  pub closes : ClosesAs (routing_setup (stage_of closed.told.value.objects).routing) closed.told.value.objects (names_in closed) (history_in closed)
      (object_left_in closed closed.told.value.objects) returned closed.pass.value
  pub firsts : map (λ (task : Returned). task.first) returned ≡ states closed.told.value.tasks.items
  pub tasks : Abreast (IsReturned (routing_setup (stage_of closed.told.value.objects).routing)) closed.tasks.items returned
  -- where there is a trace, each task noted its events, and they stand in the order of the tasks
  pub trace : IsNotedTrace (routing_setup (stage_of closed.told.value.objects).routing) returned closed.trace
  -- the first pass has found what those of the tasks have
  pub found : All (λ (task : Returned). found_by task.desk.pass ≤ closed.pass.value.known) returned
  pub order : AreInOpenedOrder closed.told.value.objects closed
  pub room : IsReservedForRun (scenario_in closed.told.value).stack (length (scenario_in closed.told.value).writes) closed.room
