use Rattle.block_core.proofs.bound.Bounded.{events_lower_rank, opened_rank_is_bounded, runs_are_bounded}
use Rattle.block_core.proofs.laws.runs_are_bounded.Goals as goal

-- src/laws.rt
pub returns-clause-lowers : goal.returns-clause-lowers
returns-clause-lowers c = events_lower_rank

pub returns-clause-opened : goal.returns-clause-opened
returns-clause-opened c = opened_rank_is_bounded

pub returns-clause-bounded : goal.returns-clause-bounded
returns-clause-bounded c = runs_are_bounded
