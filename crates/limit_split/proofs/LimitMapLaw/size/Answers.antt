use Rattle.std.proofs.Common.{ap}
use Rattle.stack_base.specs.Mapping.{size_of, smallest}
use Rattle.limit_split.specs.Numbers.{LimitNumbers}
use Rattle.limit_split.proofs.LimitMapLaw.size.Goals as goal

pub returns-clause-size : goal.returns-clause-size
unfolding size_of smallest
returns-clause-size c = ap (λ (v : LimitNumbers). v.sectors) c.self.view_is
