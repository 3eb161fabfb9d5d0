-- The sectors that were counted, and those behind them.
use Rattle.std.proofs.Common.{arith}
use Rattle.mirror_scrub.specs.Stretches.{differ_at}
use Rattle.mirror_scrub.proofs.CountLemmas.{count_le, count_on}
use Rattle.mirror_scrub.proofs.stretch.Stretch.count.Goals as goal

pub overflow_add-count : goal.overflow_add-count
overflow_add-count c =
    let more = c.count_some-more.ensures in
    omega (
      arith,
      c.counting.invariant.few,
      more.count,
      more.short,
      count_le (differ_at c.args.self.now) c.counting.place c.count_some-more.result.1,
      c.requires.low,
    )

pub counting-preserved : goal.counting-preserved
counting-preserved c =
    let kept = c.counting.invariant in
    let more = c.count_some-more.ensures in
    record {
      is = omega (arith, kept.is, more.count, count_on (differ_at c.args.self.now) c.counting.place c.count_some-more.result.1);
      few = omega (arith, kept.few, more.count, count_le (differ_at c.args.self.now) c.counting.place c.count_some-more.result.1);
      short = omega (arith, more.short);
    }
