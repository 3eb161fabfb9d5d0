-- The line of one more pool is said behind those of the pools before it.
use Rattle.stack_base.specs.declared.ids.PoolId.{PoolId}
use Rattle.mempool_core.specs.declared.Facts.{Facts}
use Rattle.outside_io.proofs.SaysLemmas.{says_more, says_silence}
use Rattle.report_text.specs.Pools.{HasDeviceOfPool}
use Rattle.report_text.specs.Views.{facts_line}
use Rattle.report_text.proofs.PoolLemmas.{each_of}
use Rattle.report_text.proofs.pools.lines_of.Goals as goal

pub pool_line-requires : goal.pool_line-requires
pool_line-requires g c =
    each_of (HasDeviceOfPool c.args.stack.now) (λ (p : PoolId × Facts). p.0) c.args.pools.now c.pools.pool-index _ c.requires c.pools-test.true

pub pools-init : goal.pools-init
pools-init g c = says_silence g.K.Sink c.args.out.now c.args.pen.now

pub pools-preserved : goal.pools-preserved
pools-preserved g c = says_more (facts_line c.args.stack.now) c.args.pools.now c.pools.pool-index _ c.pools-test.true c.pools.invariant c.pool_line.ensures
