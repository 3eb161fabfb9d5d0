use Rattle.std.proofs.Common.{◌≡◌, rules, refl, sym, subst, Err}
use Rattle.bio_books.specs.Books.{BookState}
use Rattle.bio_books.specs.Links.{Made, Masters}
use Rattle.plain_core.specs.declared.fault.CoreFault.TheVariants as fault
use Rattle.plain_core.specs.objects.Books.{OpensSo}
use Rattle.plain_core.proofs.object_lemmas.OtherPlaces.{mastered}
use Rattle.plain_core.proofs.objects.book.Book.open_master.Goals as goal

pub returns-in_err-reserve-clause-opens : goal.returns-in_err-reserve-clause-opens
returns-in_err-reserve-clause-opens c =
    let old = c.args.self.now in
    let Does : BookState → Type 0 = Masters old c.args.parent c.args.part.now c.args.slip.now c.args.legs (Made c.args.place) in
    let lacks : c.from_residual.result ≡ Err fault.Memory = search rules in
    let could = mastered old c.args.parent c.args.place c.in-Some.node.now c.args.part.now c.args.slip.now c.args.legs c.in-Some.ensures c.if-not-is_vacant.ensures in
    subst (λ r. OpensSo old Does r old) (sym lacks) (refl, could.0, could.1)
