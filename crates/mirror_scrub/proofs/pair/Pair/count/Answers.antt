-- Stretch by stretch.
use Rattle.std.proofs.Common.{◌≡◌, ℕ, sym, ap, ◌∙◌, arith}
use Rattle.std.specs.List.{count_by, range_with_len}
use Rattle.mirror_scrub.specs.Stretches.{differ_at, differ_in}
use Rattle.mirror_scrub.proofs.CountLemmas.{count_le}
use Rattle.mirror_scrub.proofs.PairLemmas.{counts_on, flags_count}
use Rattle.mirror_scrub.proofs.pair.Pair.count.Goals as goal

pub overflow_add-count : goal.overflow_add-count
overflow_add-count c =
    let s = c.stretch-stretch.result in
    omega (
      arith,
      c.loop-at.invariant.is,
      c.loop-at.invariant.within,
      c.count-count.ensures,
      count_le (differ_in c.args.self.now) 0 c.loop-at.at,
      count_le (differ_at s) 0 s.len,
      c.stretch-stretch.ensures.short,
    )

pub loop-at-preserved : goal.loop-at-preserved
loop-at-preserved c =
    record {
      within = c.stretch-stretch.ensures.short;
      is = omega (arith, c.loop-at.invariant.is, c.count-count.ensures, counts_on c.args.self.now c.stretch-stretch.result c.loop-at.at c.stretch-stretch.ensures);
    }

pub returns : goal.returns
returns c =
    let p = c.args.self.now in
    let end : c.loop-at.at ≡ p.size = omega (arith, c.loop-at.invariant.within, c.loop-at-test.false) in
    c.loop-at.invariant.is ∙ ap (λ (n : ℕ). count_by (differ_in p) (range_with_len 0 n)) end ∙ sym (flags_count p)
