-- The words of the page hold the sectors.
use Rattle.std.proofs.Common.{◌≡◌, ◌+◌, ◌*◌, ◌/◌, ◌%◌, ◌≤◌, length, sym, ap, subst, ◌∙◌, arith}
use Rattle.std.proofs.lemmas.List.{get_or_read}
use Rattle.model_disks.specs.Paged.{AreFilled, put_words}
use Rattle.model_disks.proofs.GrownLemmas.{kept_whole}
use Rattle.model_disks.proofs.PageWriteLemmas.{filled_page, length_put}
use Rattle.model_disks.proofs.pages.Pages.write_page.Goals as goal

pub returns-clause-filled : goal.returns-clause-filled
returns-clause-filled c =
    let is = c.args.self.now in
    let start = c.args.range.start in
    let len = c.args.range.len in
    let slot = c.index.result.now in
    let from = 1024 * slot + 64 * (start % 16) in
    let here = get_or_read is.slots.items (start / 16) _ (omega (arith, c.requires.within)) c.index.ensures 0 in
    let kept : 1024 * slot + 1024 ≤ length is.words.items = omega (arith, c.if-slot-used.false, c.len-used.ensures, is.words.ok.0) in
    let made : c.put_words.new.words ≡ put_words from (64 * len) c.args.first is.words.items =
    c.put_words.ensures ∙ ap (put_words from (64 * len) c.args.first) c.deref_mut.ensures.value in
    let long = length_put from (64 * len) c.args.first is.words.items (omega (arith, kept, c.requires.page)) in
    let whole = kept_whole is.words.items c.put_words.new.words _ is.words.ok.0 (ap length made ∙ long) ∙ made in
    subst (λ ws. AreFilled start len c.args.first is.words.items is.slots.items ws is.slots.items) (sym whole)
    (filled_page is.slots.items is.owners.items is.words.items start len c.args.first slot c.requires.paged.inverse c.requires.within c.requires.page
    (sym here) kept)
