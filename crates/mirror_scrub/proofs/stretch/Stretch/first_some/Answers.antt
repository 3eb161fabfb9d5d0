-- The first of the sectors that both disks keep, or one of which one disk keeps none.
use Rattle.std.proofs.Common.{◌/◌, ◌≤◌, length, sym, ◌∙◌, arith}
use Rattle.std.proofs.lemmas.Bool.{eqb-false}
use Rattle.mirror_scrub.proofs.StretchLemmas.{first_is}
use Rattle.mirror_scrub.proofs.stretch.Stretch.first_some.Goals as goal

pub returns : goal.returns
returns c =
    let words = c.words.result.0.now in
    let some : 1 ≤ length words / 64 =
    omega (arith, eqb-false (length words) 0 (sym c.is_empty.ensures ∙ c.if-is_empty.false), c.words.ensures.whole) in
    first_is c.args.self.now c.args.from c.words.result.0.now c.words.result.1.now c.words.ensures c.args.differing c.first_sector-place.result
    some c.first_sector-place.ensures
