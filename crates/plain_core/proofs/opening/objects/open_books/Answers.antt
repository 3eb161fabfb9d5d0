use Rattle.std.proofs.Common.{◌∙◌, ℕ, ap, replicate, None}
use Rattle.bio_books.specs.Books.{BookState}
use Rattle.plain_core.specs.opening.Opening.{new_book}
use Rattle.plain_core.proofs.opening_lemmas.MadeByNumber.{mapped_more}
use Rattle.plain_core.proofs.opening.objects.open_books.Goals as goal

pub opening-preserved : goal.opening-preserved
opening-preserved c =
    let with_places : ℕ → BookState = λ places. record { writer = c.opening.writer; nodes = replicate places None } in
    mapped_more (new_book c.args.routes.now.places) c.opening.books.items c.push.new.self.items c.opening.writer c.in_ok-open.field-0 c.in_ok-push.ensures.items
    c.opening.invariant (c.in_ok-open.ensures ∙ ap with_places c.places.ensures)
