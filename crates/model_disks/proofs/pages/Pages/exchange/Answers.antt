-- Each of the two pages has the slot of the other.
use Rattle.std.proofs.Common.{◌≡◌, ◌<◌, length, sym, ap, subst, ◌∙◌, arith}
use Rattle.std.specs.Prelude.{slice_set}
use Rattle.std.proofs.lemmas.List.{get_or_read}
use Rattle.model_disks.specs.Paged.{IsExchanged, number_at}
use Rattle.model_disks.proofs.PageLemmas.{slots_exchanged}
use Rattle.model_disks.proofs.pages.Pages.exchange.Goals as goal

pub returns-clause-slots : goal.returns-clause-slots
returns-clause-slots c =
    let slots = c.args.self.now.slots.items in
    let owners = c.args.self.now.owners.items in
    let inverse = c.requires.inverse in
    let page = c.index-page.result.now in
    let behind = c.index-behind.result.now in
    let page_is = get_or_read owners c.args.one page (omega (arith, c.requires.one, inverse.size)) c.index-page.ensures 0 in
    let behind_is = get_or_read owners c.args.other behind (omega (arith, c.requires.other, inverse.size)) c.index-behind.ensures 0 in
    let page_in : page < length slots = omega (arith, page_is, inverse.owner c.args.one c.requires.one) in
    let behind_in : behind < length slots = omega (arith, behind_is, inverse.owner c.args.other c.requires.other) in
    let low : c.index-low.result.now ≡ c.args.one =
    get_or_read slots page _ page_in c.index-low.ensures 0 ∙ ap (number_at slots) page_is ∙ inverse.forth c.args.one c.requires.one in
    let high : c.index-high.result.now ≡ c.args.other =
    get_or_read slots behind _ behind_in c.index-high.ensures 0 ∙ ap (number_at slots) behind_is ∙ inverse.forth c.args.other c.requires.other in
    subst (λ one. IsExchanged c.args.one c.args.other slots (slice_set (slice_set slots page c.index-high.result.now) behind one)) (sym low)
    (subst (λ other. IsExchanged c.args.one c.args.other slots (slice_set (slice_set slots page other) behind c.args.one)) (sym high)
    (slots_exchanged slots owners c.args.one c.args.other page behind inverse c.requires.one c.requires.other page_is behind_is))
