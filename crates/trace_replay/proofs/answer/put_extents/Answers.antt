-- The line of one more pool is said behind those of the pools before it.
use Rattle.outside_io.proofs.SaysLemmas.{says_more, says_silence}
use Rattle.report_text.specs.Pools.{HasDeviceOfPool}
use Rattle.report_text.proofs.PoolLemmas.{each_of}
use Rattle.trace_replay.specs.Answer.{extent_line}
use Rattle.trace_replay.specs.declared.extents.Extent.{Extent}
use Rattle.trace_replay.proofs.answer.put_extents.Goals as goal

pub put_extent-requires : goal.put_extent-requires
put_extent-requires g c =
    each_of (HasDeviceOfPool c.args.stack.now) (λ (e : Extent). e.pool) c.args.extents.now c.pools.extent-index _ c.requires c.pools-test.true

pub pools-init : goal.pools-init
pools-init g c = says_silence g.K.Sink c.args.out.now c.args.pen.now

pub pools-preserved : goal.pools-preserved
pools-preserved g c = says_more (extent_line c.args.stack.now) c.args.extents.now c.pools.extent-index _ c.pools-test.true c.pools.invariant c.put_extent.ensures
