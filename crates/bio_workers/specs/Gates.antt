-- What a gate was shown.
use Rattle.std.specs.Prelude.{◌≡◌, List}
use Rattle.run_machine.specs.Laws.{Object}
use Rattle.task_core.specs.declared.Opened.{Opened}
use Rattle.object_things.specs.Histories.{Call}
use Rattle.shared_objects.specs.ClosedByName.{history_in, names_in}
use Rattle.shared_objects.specs.Left.{HasClosed}
use Rattle.shared_objects.specs.declared.closed.Closed.{Closed}
use Rattle.std.specs.Prelude.{Option, None, Some}
use Rattle.std.specs.declared.snapshot.Snapshot.{Snapshot}

-- what was opened, the objects that were shared, and the history of each
pub record Showing : Type 0 where
  pub opened : Opened
  pub names : List Object
  pub history : Object → List Call

abbrev pub showing : Closed → Showing
showing closed = record { opened = closed.told.value; names = names_in closed; history = history_in closed }

abbrev pub shown_by : Option (Snapshot Closed) → Option Showing
shown_by None = None
shown_by (Some seen) = Some (showing seen.value)

-- it is what closed objects show
abbrev pub IsOfClosed : Showing → Type 0
IsOfClosed shown = (closed : Closed) × HasClosed closed × (shown ≡ showing closed)
