-- In the stretch from the place on, or behind it.
use Rattle.std.proofs.Common.{◌+◌, ◌<◌, true, sym, ◌∙◌, arith}
use Rattle.mirror_scrub.specs.Stretches.{flags_in}
use Rattle.mirror_scrub.proofs.PairLemmas.{end_behind, first_is, flag_in, flags_long, others_in, run_after}
use Rattle.mirror_scrub.proofs.pair.Pair.next_on.Goals as goal

pub returns-then-place-stretch : goal.returns-then-place-stretch
returns-then-place-stretch c =
    let p = c.args.self.now in
    let s = c.args.stretch.now in
    let is = c.requires.stretch in
    let found = c.first-place.ensures in
    run_after (flags_in p) c.args.from (c.args.at + s.len) c.next_from.result c.requires.within
    (λ x le lt. flag_in p x (omega (arith, lt, is.short))
    ∙ others_in p s true c.args.from c.args.at s.len is (omega arith) c.requires.behind
    (λ i from before. found.others i from (omega (arith, before, c.if-place-stretch.true))) x le lt)
    c.next_from.ensures

pub returns : goal.returns
returns c =
    let p = c.args.self.now in
    let s = c.args.stretch.now in
    let is = c.requires.stretch in
    let found = c.first-place in
    let start = c.args.at + found.result in
    let inside : found.result < s.len = omega (arith, found.ensures.within, c.if-place-stretch.false) in
    let within : start < p.size = omega (arith, inside, is.short) in
    let differs = sym (is.same found.result inside) ∙ found.ensures.here inside in
    record {
      start = first_is p c.args.from true start (omega (arith, found.ensures.behind, c.requires.behind)) (omega (arith, within))
          (others_in p s true c.args.from c.args.at found.result is found.ensures.within c.requires.behind found.ensures.others)
          (λ _. differs);
      inside = omega (arith, within, flags_long p);
      end = end_behind (flags_in p) start c.end-end.result (flag_in p start within ∙ differs) c.end-end.ensures;
    }
