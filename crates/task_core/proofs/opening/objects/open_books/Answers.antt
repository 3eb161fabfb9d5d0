use Rattle.std.proofs.Common.{◌<◌, length, ◌∙◌, arith}
use Rattle.task_core.specs.opened.Openings.{itself, IsNewBook}
use Rattle.task_steps.specs.Stage.{has_book_in}
use Rattle.task_core.specs.Plains.{book_number}
use Rattle.task_core.proofs.opened.OpenedInOrder.{one_more, not_itself}
use Rattle.task_core.proofs.opening.objects.open_books.Goals as goal

pub opening-preserved : goal.opening-preserved
opening-preserved c =
    let test = c.opening-test.true in
    let long = c.opening.invariant.long in
    let inside : c.opening.writer < length c.opening.table = omega (test, long, arith) in
    let more =
    one_more book_number itself (has_book_in c.args.routes.now) (IsNewBook c.args.routes.now) c.opening.writer c.opening.books.items c.opening.table c.opening.invariant.opened
    c.open_book.new.books.items c.open_book.new.table (λ i lt. not_itself i c.opening.writer lt) inside c.in_ok-open_book.ensures in
    record { opened = more.0; long = more.1 ∙ long }
