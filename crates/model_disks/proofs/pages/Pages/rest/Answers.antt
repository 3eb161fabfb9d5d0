-- A page that has no words is zeros.
use Rattle.std.proofs.Common.{◌≡◌, ◌+◌, ◌-◌, ◌*◌, ◌/◌, ◌%◌, ◌<◌, take, drop, sym, ap, ◌∙◌, arith}
use Rattle.std.proofs.lemmas.List.{get_or_read, length-take}
use Rattle.model_disks.specs.Paged.{word_place}
use Rattle.model_disks.proofs.PageLemmas.{place_is, words_end}
use Rattle.model_disks.proofs.PageWriteLemmas.{rest_sector}
use Rattle.model_disks.proofs.pages.Pages.rest.Goals as goal

pub returns-then-slot-len-clause-zeros : goal.returns-then-slot-len-clause-zeros
returns-then-slot-len-clause-zeros c none =
    let words = c.args.self.now.words.items in
    let slots = c.args.self.now.slots.items in
    let slot = get_or_read slots (c.args.at / 16) _ (omega (arith, c.requires.here)) c.index.ensures 0 in
    words_end words (word_place slots c.args.at)
    (omega (
      arith,
      place_is slots c.args.at c.index.result.now (sym slot),
      c.if-slot-len.true,
      c.len.ensures,
      c.args.self.now.words.ok.0,
      c.requires.paged.whole,
    ))

pub returns-clause-sectors : goal.returns-clause-sectors
returns-clause-sectors c i lt =
    let words = c.args.self.now.words.items in
    let slots = c.args.self.now.slots.items in
    let slot = get_or_read slots (c.args.at / 16) _ (omega (arith, c.requires.here)) c.index.ensures 0 in
    let from = 1024 * c.index.result.now + 64 * (c.args.at % 16) in
    let len = c.min.result in
    let size : from + 64 * len - from ≡ 64 * len = omega arith in
    let inside : i < len = omega (arith, lt, size, length-take (from + 64 * len - from) (drop from c.deref.result.now)) in
    ap (λ n. take 64 (drop (64 * i) (take n (drop from c.deref.result.now)))) size
    ∙ ap (λ ws. take 64 (drop (64 * i) (take (64 * len) (drop from ws)))) c.deref.ensures.value
    ∙ rest_sector slots words c.args.at c.index.result.now len i (sym slot) (omega (arith, c.min.ensures))
    (omega (arith, c.if-slot-len.false, c.len.ensures, c.args.self.now.words.ok.0)) inside
