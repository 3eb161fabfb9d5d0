-- The page and its words change places with those that stood in its slot, or it stood there.
use Rattle.std.proofs.Common.{◌≡◌, sym, ap, subst, ◌∙◌, arith}
use Rattle.std.proofs.lemmas.List.{get_or_read}
use Rattle.model_disks.specs.Paged.{AreSame, AreSwapped}
use Rattle.model_disks.proofs.GrownLemmas.{kept_whole}
use Rattle.model_disks.proofs.PageLemmas.{settled_more, settled_here, same_swapped}
use Rattle.model_disks.proofs.pages.Pages.settle.Goals as goal

pub returns-then-slot-page-clause-settled : goal.returns-then-slot-page-clause-settled
returns-then-slot-page-clause-settled c =
    let slots = c.args.self.now.slots.items in
    let slot = get_or_read slots c.args.page _ c.requires.page c.index.ensures 0 in
    settled_more slots c.exchange.new.self.slots.items c.args.page c.index.result.now c.exchange.ensures.slots
    (sym slot) (omega (arith, c.if-slot-page.true)) c.requires.page c.requires.settled

pub returns-then-slot-page-clause-same : goal.returns-then-slot-page-clause-same
returns-then-slot-page-clause-same c =
    let words = c.args.self.now.words.items in
    let slots = c.args.self.now.slots.items in
    let new = c.swap.new.words in
    let swapped = subst (λ old. AreSwapped c.args.page c.index.result.now old new) c.deref_mut.ensures.value c.swap.ensures in
    let made : c.exchange.new.self.words.items ≡ new =
    ap (λ w. w.items) c.exchange.ensures.words
    ∙ kept_whole words new _ c.args.self.now.words.ok.0 swapped.size in
    subst (λ ws. AreSame words slots ws c.exchange.new.self.slots.items) (sym made)
    (same_swapped words slots new _ c.args.page c.index.result.now swapped c.exchange.ensures.slots)

pub returns-else-slot-page-clause-settled : goal.returns-else-slot-page-clause-settled
returns-else-slot-page-clause-settled c =
    let slots = c.args.self.now.slots.items in
    let slot = get_or_read slots c.args.page _ c.requires.page c.index.ensures 0 in
    settled_here slots c.args.self.now.owners.items c.args.page c.requires.paged.inverse c.requires.page c.requires.settled
    (omega (arith, slot, c.if-slot-page.false))
