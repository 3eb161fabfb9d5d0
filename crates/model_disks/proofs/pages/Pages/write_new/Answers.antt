-- The page comes into the first slot without words, and gets words there.
use Rattle.std.proofs.Common.{◌≡◌, ◌+◌, ◌*◌, ◌/◌, ◌%◌, ◌<◌, ◌≤◌, length, sym, ap, subst, ◌∙◌, arith}
use Rattle.std.specs.Prelude.{vec_capacity}
use Rattle.std.proofs.lemmas.List.{get_or_read}
use Rattle.model_disks.specs.Kept.{grown}
use Rattle.model_disks.specs.Paged.{AreSame, AreFilled, number_at, put_words, swapped_slot}
use Rattle.model_disks.proofs.GrownLemmas.{length_grown}
use Rattle.model_disks.proofs.PageLemmas.{paged_grown, same_behind, turned_one}
use Rattle.model_disks.proofs.PageWriteLemmas.{filled_page, filled_same, length_put}
use Rattle.model_disks.proofs.pages.Pages.write_new.Goals as goal

pub returns-clause-paged : goal.returns-clause-paged
returns-clause-paged c =
    let is = c.args.self.now in
    let words = is.words.items in
    let used = c.len-used.result / 1024 in
    let from = 1024 * used + 64 * (c.args.range.start % 16) in
    let own = 64 * c.args.range.len in
    let zeros = grown 0 (1024 * (used + 1)) words in
    let within : c.args.range.start / 16 < length is.slots.items = omega (arith, c.requires.within) in
    let slot = get_or_read is.slots.items (c.args.range.start / 16) _ within c.index.ensures 0 in
    let in_slots = c.requires.paged.inverse.slot (c.args.range.start / 16) within in
    let count : c.len-used.result ≡ length words = omega (arith, c.len-used.ensures, is.words.ok.0) in
    let far : used ≤ c.index.result.now = omega (arith, slot, count, c.requires.behind, c.requires.paged.whole) in
    let paged = paged_grown (vec_capacity is.words) (vec_capacity c.put_behind.new.words) words is.slots.items is.owners.items c.exchange.new.self.slots.items
    c.exchange.new.self.owners.items (used + 1) c.requires.paged c.exchange.ensures.inverse c.exchange.ensures.slots.size (omega (arith, count))
    (omega (arith, in_slots, slot, far)) (omega (arith, c.put_behind.ensures.room, ap (λ w. vec_capacity w) c.exchange.ensures.words)) in
    let long = length_grown 0 (1024 * (used + 1)) words in
    let made : c.put_behind.new.words.items ≡ put_words from own c.args.first zeros =
    c.put_behind.ensures.words ∙ ap (λ w. put_words from own c.args.first (grown 0 (1024 * (used + 1)) w.items)) c.exchange.ensures.words in
    let size : length c.put_behind.new.words.items ≡ length zeros =
    ap length made ∙ length_put from own c.args.first zeros (omega (arith, long, c.requires.page)) in
    record {
      inverse = paged.inverse;
      whole = omega (arith, size, paged.whole);
      within = omega (arith, size, paged.within);
      fits = paged.fits;
    }

pub returns-clause-filled : goal.returns-clause-filled
returns-clause-filled c =
    let is = c.args.self.now in
    let words = is.words.items in
    let slots = c.exchange.new.self.slots.items in
    let start = c.args.range.start in
    let len = c.args.range.len in
    let used = c.len-used.result / 1024 in
    let from = 1024 * used + 64 * (start % 16) in
    let zeros = grown 0 (1024 * (used + 1)) words in
    let within : start / 16 < length is.slots.items = omega (arith, c.requires.within) in
    let slot = get_or_read is.slots.items (start / 16) _ within c.index.ensures 0 in
    let count : c.len-used.result ≡ length words = omega (arith, c.len-used.ensures, is.words.ok.0) in
    let far : used ≤ c.index.result.now = omega (arith, slot, count, c.requires.behind, c.requires.paged.whole) in
    let end : length words ≤ 1024 * used = omega (arith, count, c.requires.paged.whole) in
    let same : AreSame words is.slots.items zeros slots =
    same_behind words is.slots.items _ used c.index.result.now (1024 * (used + 1)) end far c.exchange.ensures.slots in
    let long = length_grown 0 (1024 * (used + 1)) words in
    let here : number_at slots (start / 16) ≡ used =
    c.exchange.ensures.slots.slot (start / 16) within ∙ ap (swapped_slot c.index.result.now used) (sym slot) ∙ turned_one c.index.result.now used in
    let made : c.put_behind.new.words.items ≡ put_words from (64 * len) c.args.first zeros =
    c.put_behind.ensures.words ∙ ap (λ w. put_words from (64 * len) c.args.first (grown 0 (1024 * (used + 1)) w.items)) c.exchange.ensures.words in
    filled_same start len c.args.first words is.slots.items zeros slots _ slots (omega (arith, within, c.requires.page)) same
    (subst (λ ws. AreFilled start len c.args.first zeros slots ws slots) (sym made)
    (filled_page slots c.exchange.new.self.owners.items zeros start len c.args.first used c.exchange.ensures.inverse
    (omega (arith, within, c.exchange.ensures.slots.size)) c.requires.page here (omega (arith, long))))
