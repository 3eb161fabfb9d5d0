-- A sector that stands alone, or zeros.
use Rattle.std.proofs.Common.{◌≡◌, ◌+◌, ◌/◌, ◌<◌, length, sym, ap, ◌∙◌, arith}
use Rattle.std.proofs.lemmas.Bool.{eqb-true, eqb-false}
use Rattle.std.proofs.lemmas.List.{take_all}
use Rattle.model_disks.specs.Paged.{sector_words}
use Rattle.model_disks.proofs.pages.Pages.sector.Goals as goal

pub returns-then-is_empty : goal.returns-then-is_empty
returns-then-is_empty c =
    c.zeros.ensures ∙ sym (c.rest-words.ensures.zeros (eqb-true (length c.rest-words.result.now) 0 (sym c.is_empty.ensures ∙ c.if-is_empty.true)))

pub returns : goal.returns
returns c =
    let rest = c.rest-words.ensures in
    let words = c.rest-words.result.now in
    let some : 0 < length words / 64 = omega (arith, eqb-false (length words) 0 (sym c.is_empty.ensures ∙ c.if-is_empty.false), rest.whole) in
    let at : c.args.at + 0 ≡ c.args.at = omega arith in
    sym (take_all 64 words (omega (arith, rest.short)))
    ∙ rest.sectors 0 some
    ∙ ap (sector_words c.args.self.now.words.items c.args.self.now.slots.items) at
