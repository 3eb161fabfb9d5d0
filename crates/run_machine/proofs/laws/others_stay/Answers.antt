use Rattle.run_machine.proofs.Frames.{others_stay}
use Rattle.run_machine.proofs.laws.others_stay.Goals as goal

-- src/laws.rt
pub returns : goal.returns
returns c = others_stay
