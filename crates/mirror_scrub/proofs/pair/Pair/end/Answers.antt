-- In the stretch from the place on, or behind it.
use Rattle.std.proofs.Common.{◌+◌, false, sym, ◌∙◌, arith}
use Rattle.mirror_scrub.proofs.PairLemmas.{first_behind, first_is, others_in}
use Rattle.mirror_scrub.proofs.pair.Pair.end.Goals as goal

pub returns-then-place-stretch : goal.returns-then-place-stretch
returns-then-place-stretch c =
    let p = c.args.self.now in
    let s = c.args.stretch.now in
    let is = c.requires.stretch in
    let found = c.first-place in
    let inside = c.if-place-stretch.true in
    first_is p c.args.from false (c.args.at + found.result) (omega (arith, found.ensures.behind, c.requires.behind)) (omega (arith, inside, is.short))
    (others_in p s false c.args.from c.args.at found.result is found.ensures.within c.requires.behind found.ensures.others)
    (λ _. sym (is.same found.result inside) ∙ found.ensures.here inside)

pub returns : goal.returns
returns c =
    let p = c.args.self.now in
    let s = c.args.stretch.now in
    let is = c.requires.stretch in
    let found = c.first-place.ensures in
    first_behind p false c.args.from (c.args.at + s.len) c.first.result c.requires.within is.short
    (others_in p s false c.args.from c.args.at s.len is (omega arith) c.requires.behind
    (λ i le lt. found.others i le (omega (arith, lt, found.within, c.if-place-stretch.false))))
    c.first.ensures
