use Rattle.shared_objects.proofs.sharing.AddingUp.{objects_add_up}
use Rattle.shared_objects.proofs.laws.shared_objects_add_up.Goals as goal

pub returns : goal.returns
returns c = objects_add_up
