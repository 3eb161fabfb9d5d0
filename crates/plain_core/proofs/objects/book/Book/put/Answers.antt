use Rattle.std.proofs.Common.{subst, sym, arith}
use Rattle.bio_books.specs.Books.{BookState}
use Rattle.bio_books.specs.Links.{IsVacant}
use Rattle.plain_core.proofs.object_lemmas.Vacancies.{counted}
use Rattle.plain_core.proofs.objects.book.Book.put.Goals as goal

pub overflow_sub-self : goal.overflow_sub-self
overflow_sub-self c =
    let vacant = subst (λ (b : BookState). IsVacant b c.args.place) (sym c.self.view_is) c.requires in
    omega (arith, counted c.self.inside.nodes.items c.args.place vacant, c.self.invariant)
