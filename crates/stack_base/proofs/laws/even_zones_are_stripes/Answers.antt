use Rattle.stack_base.proofs.EvenMembers
use Rattle.stack_base.proofs.laws.even_zones_are_stripes.Goals as goal

pub returns : goal.returns
returns c = EvenMembers.even_zones_are_stripes
