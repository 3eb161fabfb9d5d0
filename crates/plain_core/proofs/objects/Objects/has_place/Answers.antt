use Rattle.std.proofs.Common.{◌≡◌, ℕ, [], rules, subst, sym}
use Rattle.std.specs.Prelude.{slice_index_or}
use Rattle.bio_books.specs.Books.{BookState}
use Rattle.bio_books.specs.Links.{IsVacant}
use Rattle.plain_core.specs.objects.Questions.{IsDecisionOf}
use Rattle.plain_core.specs.objects.Plain.{CoreObjects, core_book_at}
use Rattle.plain_core.proofs.objects.Objects.has_place.Goals as goal

pub returns-in-Some : goal.returns-in-Some
returns-in-Some c =
    let here : slice_index_or c.self.inside.books.items c.args.writer (record { writer = c.args.writer; nodes = [] }) ≡ c.in-Some.book.now = search rules in
    subst (λ (o : CoreObjects). IsDecisionOf c.has_place.result ((x : ℕ) × IsVacant (core_book_at o c.args.writer) x)) c.self.view_is
    (subst (λ (b : BookState). IsDecisionOf c.has_place.result ((x : ℕ) × IsVacant b x)) (sym here) c.has_place.ensures)
