-- The words of both disks up to the end of the shorter ones, or the stretch's.
use Rattle.std.proofs.Common.{◌≡◌, ◌*◌, ◌-◌, ◌%◌, min, ap, ◌∙◌, arith}
use Rattle.mirror_scrub.proofs.StretchLemmas.{words_are}
use Rattle.mirror_scrub.proofs.stretch.Stretch.words.Goals as goal

pub returns : goal.returns
returns c =
    let one = c.rest-one in
    let other = c.rest-other in
    let size = c.min-size.result in
    let whole : size % 64 ≡ 0 = omega (arith, one.ensures.whole, other.ensures.whole, c.min.ensures, c.min-size.ensures) in
    words_are c.args.self.now c.args.place one.result.now other.result.now size c.requires.here one.ensures.sectors other.ensures.sectors
    (c.min-size.ensures ∙ ap (λ n. min n (64 * (c.args.self.now.len - c.args.place))) c.min.ensures) whole
