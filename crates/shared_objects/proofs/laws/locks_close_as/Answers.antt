use Rattle.shared_objects.proofs.leaving.ClosesAs.{closes_as}
use Rattle.shared_objects.proofs.laws.locks_close_as.Goals as goal

pub returns : goal.returns
returns c = closes_as
