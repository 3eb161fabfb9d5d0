use Rattle.stack_base.proofs.KindHeads.{kind_twice}
use Rattle.stack_base.proofs.laws.heads_are_heads.Goals as goal

pub returns : goal.returns
returns c = kind_twice
