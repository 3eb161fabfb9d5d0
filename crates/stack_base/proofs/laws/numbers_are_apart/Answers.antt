use Rattle.stack_base.proofs.PoolNumbers
use Rattle.stack_base.proofs.laws.numbers_are_apart.Goals as goal

pub returns : goal.returns
returns c = PoolNumbers.numbers_are_apart
