use Rattle.block_core.proofs.images.EndedRuns.{nothing_comes_where_ended}
use Rattle.block_core.proofs.images.NothingComes.{nothing_comes_where_all_is_home}
use Rattle.block_core.proofs.laws.nothing_comes_where_all_is_home.Goals as goal

-- src/laws.rt
pub returns-clause-home : goal.returns-clause-home
returns-clause-home c = nothing_comes_where_all_is_home

pub returns-clause-ended : goal.returns-clause-ended
returns-clause-ended c = nothing_comes_where_ended
