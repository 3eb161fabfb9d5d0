use Rattle.run_machine.proofs.Frames.{runs_are_joined}
use Rattle.run_machine.proofs.laws.runs_are_joined.Goals as goal

-- src/laws.rt
pub returns : goal.returns
returns c = runs_are_joined
