use Rattle.run_machine.proofs.Frames.{pools_are_numbered}
use Rattle.run_machine.proofs.laws.pools_are_numbered.Goals as goal

-- src/laws.rt
pub returns : goal.returns
returns c = pools_are_numbered
