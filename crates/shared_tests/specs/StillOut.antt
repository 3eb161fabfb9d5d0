-- Tasks of shared objects on their way to the end.
use Rattle.std.specs.Prelude.{◌≡◌, List, length, map}
use Rattle.bio_workers.specs.Hands.{AreOut}
use Rattle.shared_objects.specs.Rans.{RanState, ran_key}
use Rattle.shared_objects.specs.Shared.{SharedHolds}
use Rattle.shared_objects.specs.declared.shared.Shared.{Shared}
use Rattle.task_core.specs.declared.opening.Opened.{Opened}

-- all tasks of what was opened so were handed out; these are still out, and each other one is back and has stopped
pub record AreStillOut (opened : Opened) (shared : Shared) (rans : List RanState) : Type 0 where
  pub told : shared.told.value ≡ opened
  pub holds : SharedHolds shared
  pub all : shared.next ≡ length shared.tasks.items
  pub out : AreOut shared (map ran_key rans)
