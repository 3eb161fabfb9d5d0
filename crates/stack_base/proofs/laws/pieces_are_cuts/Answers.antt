use Rattle.stack_base.proofs.KindCuts.{kind_cuts}
use Rattle.stack_base.proofs.laws.pieces_are_cuts.Goals as goal

pub returns : goal.returns
returns c = kind_cuts
