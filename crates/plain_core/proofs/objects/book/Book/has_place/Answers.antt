use Rattle.std.proofs.Common.{ℕ, nat_lt, subst}
use Rattle.bio_books.specs.Books.{BookState}
use Rattle.bio_books.specs.Links.{IsVacant}
use Rattle.plain_core.specs.objects.Questions.{IsDecisionOf}
use Rattle.plain_core.proofs.object_lemmas.Vacancies.{some_vacant}
use Rattle.plain_core.proofs.objects.book.Book.has_place.Goals as goal

pub returns : goal.returns
returns c =
    subst (λ (b : BookState). IsDecisionOf (nat_lt 0 c.self.inside.vacant) ((x : ℕ) × IsVacant b x)) c.self.view_is
    (some_vacant c.self.inside.nodes.items c.self.inside.vacant c.self.invariant)
