use Rattle.serial_run.proofs.Follows.{turns_are_a_run}
use Rattle.serial_run.proofs.laws.turns_are_a_run.Goals as goal

pub returns : goal.returns
returns c = turns_are_a_run
