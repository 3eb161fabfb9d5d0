use Rattle.stack_base.proofs.EvenMembers
use Rattle.stack_base.proofs.laws.stripes_go_by_smallest.Goals as goal

pub returns : goal.returns
returns c = EvenMembers.stripes_go_by_smallest
