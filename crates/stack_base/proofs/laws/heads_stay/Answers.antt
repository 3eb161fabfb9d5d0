use Rattle.stack_base.proofs.KindHeads.{kind_again}
use Rattle.stack_base.proofs.laws.heads_stay.Goals as goal

pub returns : goal.returns
returns c = kind_again
