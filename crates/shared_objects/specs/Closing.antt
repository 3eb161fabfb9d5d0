-- What follows from the seats that were joined and from what the locks left.
use Rattle.std.specs.Prelude.{◌≡◌, List, All, length, Some}
use Rattle.tick_clock.specs.Tickets.{PassState}
use Rattle.run_machine.specs.Scene.{Setup}
use Rattle.task_core.specs.declared.plain.Plain.{Plain}
use Rattle.shared_objects.specs.ClosedByName.{history_in, object_left_in, names_in}
use Rattle.shared_objects.specs.Closes.{ClosesAs, Returned}
use Rattle.shared_objects.specs.Holding.{SeatsHold, desk_of}
use Rattle.shared_objects.specs.Logs.{HasStopped, IsLogged}
use Rattle.shared_objects.specs.Rows.{Abreast}
use Rattle.shared_objects.specs.Sharing.{AreOfOpened}
use Rattle.shared_objects.specs.Shutting.{HasShut}
use Rattle.shared_objects.specs.Taking.{TakenHold}
use Rattle.shared_objects.specs.declared.closed.Closed.{Closed}
use Rattle.shared_objects.specs.declared.locks.Locks.{Locks}
use Rattle.shared_objects.specs.declared.seats.TaskSeats.{TaskSeats}

-- Locks round what was opened, into whose first seats the seats of all tasks were joined, leave histories in which each task's calls are those that
-- it made.
abbrev pub LocksCloseAs : Type 0
LocksCloseAs = (setup : Setup) (opened : Plain) (locks : Locks) (firsts : TaskSeats) (closed : Closed) (all : List TaskSeats) (returned : List Returned) (pass : PassState)
    → AreOfOpened opened locks → HasShut locks firsts closed → TakenHold (length all) locks all firsts → All (SeatsHold locks) all
    → Abreast (λ (seats : TaskSeats) (task : Returned). task.desk ≡ desk_of seats) all returned
    → All (λ (task : Returned). IsLogged setup task.first task.log task.task task.desk × HasStopped setup task.log task.task) returned → firsts.pass ≡ Some pass
    → ClosesAs setup opened (names_in closed) (history_in closed) (object_left_in closed opened) returned pass
