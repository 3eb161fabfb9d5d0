-- Stretch by stretch, up to the first sector that is so.
use Rattle.std.proofs.Common.{◌+◌, sym, ◌∙◌, arith}
use Rattle.mirror_scrub.proofs.PairLemmas.{first_is, others_on}
use Rattle.mirror_scrub.proofs.pair.Pair.first.Goals as goal

pub returns-then-place-stretch : goal.returns-then-place-stretch
returns-then-place-stretch c =
    let p = c.args.self.now in
    let s = c.stretch-stretch in
    let at = c.loop-at.at in
    let inv = c.loop-at.invariant in
    let found = c.first-place in
    let inside = c.if-place-stretch.true in
    first_is p c.args.from c.args.differing (at + found.result) (omega (arith, inv.behind)) (omega (arith, inside, s.ensures.short))
    (others_on p s.result c.args.differing c.args.from at found.result s.ensures found.ensures.within inv.others (λ i lt. found.ensures.others i (omega arith) lt))
    (λ _. sym (s.ensures.same found.result inside) ∙ found.ensures.here inside)

pub loop-at-preserved : goal.loop-at-preserved
loop-at-preserved c =
    let s = c.stretch-stretch in
    let inv = c.loop-at.invariant in
    let found = c.first-place.ensures in
    record {
      behind = omega (arith, inv.behind);
      within = s.ensures.short;
      others = others_on c.args.self.now s.result c.args.differing c.args.from c.loop-at.at s.result.len s.ensures (omega arith) inv.others
          (λ i lt. found.others i (omega arith) (omega (arith, lt, found.within, c.if-place-stretch.false)));
    }

pub returns : goal.returns
returns c =
    let inv = c.loop-at.invariant in
    first_is c.args.self.now c.args.from c.args.differing c.args.self.now.size c.requires.from (omega arith)
    (λ x le lt. inv.others x le (omega (arith, lt, c.loop-at-test.false))) (λ lt. absurd (omega (arith, lt)))
