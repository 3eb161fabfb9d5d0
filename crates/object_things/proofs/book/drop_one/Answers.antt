use Rattle.std.proofs.Common.{sym, ap, subst}
use Rattle.bio_books.specs.Views.{bio_of, drop_outcome_of}
use Rattle.run_machine.specs.Requests.{Drop}
use Rattle.task_steps.specs.Stage.{Owes}
use Rattle.object_things.specs.Books.{book_replied}
use Rattle.object_things.specs.Stamps.{stage_in}
use Rattle.object_things.specs.declared.book.BookSaid.{BookSaid}
use Rattle.object_things.specs.declared.stamp.Replied.{Replied}
use Rattle.task_core.proofs.StageBooks.{node_is, drops_is}
use Rattle.object_things.proofs.book.drop_one.Goals as goal

pub returns-clause-owed : goal.returns-clause-owed
returns-clause-owed c =
    subst (λ said. Owes (stage_in c.args.stamp.now.common) (Drop c.args.writer c.args.node c.args.status (bio_of c.args.part)) (book_replied said))
    (sym (ap (λ (r : Replied BookSaid). r.said) c.reply-2.ensures))
    (drops_is (stage_in c.args.stamp.now.common) c.args.book.now.writer c.args.node c.args.status (bio_of c.args.part) (drop_outcome_of c.drop_one-dropped.result) c.args.book.now c.drop_one-dropped.new.self
    c.requires.of c.requires.fits.1 _ (node_is (stage_in c.args.stamp.now.common) c.args.book.now.writer c.args.node c.args.book.now c.requires.of) c.drop_one-dropped.ensures.drops).1

pub returns-clause-of : goal.returns-clause-of
returns-clause-of c =
    (drops_is (stage_in c.args.stamp.now.common) c.args.book.now.writer c.args.node c.args.status (bio_of c.args.part) (drop_outcome_of c.drop_one-dropped.result) c.args.book.now c.drop_one-dropped.new.self
    c.requires.of c.requires.fits.1 _ (node_is (stage_in c.args.stamp.now.common) c.args.book.now.writer c.args.node c.args.book.now c.requires.of) c.drop_one-dropped.ensures.drops).0
