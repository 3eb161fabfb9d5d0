use Rattle.std.proofs.Common.{sym, ap, subst}
use Rattle.bio_books.specs.Views.{linked_of}
use Rattle.run_machine.specs.Requests.{Link}
use Rattle.task_steps.specs.Stage.{Owes}
use Rattle.task_steps.specs.Views.{opening_of}
use Rattle.object_things.specs.Books.{book_replied}
use Rattle.object_things.specs.declared.book.BookSaid.{BookSaid}
use Rattle.object_things.specs.declared.stamp.Replied.{Replied}
use Rattle.object_things.specs.Stamps.{stage_in}
use Rattle.task_core.proofs.StageBooks.{links_is}
use Rattle.object_things.proofs.book.link.Goals as goal

pub returns-clause-owed : goal.returns-clause-owed
returns-clause-owed c =
    subst (λ said. Owes (stage_in c.args.stamp.now.common) (Link c.args.writer (opening_of c.args.what)) (book_replied said)) (sym (ap (λ (r : Replied BookSaid). r.said) c.reply-2.ensures))
    (links_is (stage_in c.args.stamp.now.common) c.args.book.now.writer (opening_of c.args.what) (linked_of c.link_in-linked.result) c.args.book.now c.link_in-linked.new.book c.requires.of c.requires.fits.1
    c.link_in-linked.ensures.opened).1

pub returns-clause-of : goal.returns-clause-of
returns-clause-of c =
    (links_is (stage_in c.args.stamp.now.common) c.args.book.now.writer (opening_of c.args.what) (linked_of c.link_in-linked.result) c.args.book.now c.link_in-linked.new.book c.requires.of c.requires.fits.1
    c.link_in-linked.ensures.opened).0
