use Rattle.std.proofs.Common.{None, Ok, subst}
use Rattle.bio_books.specs.Drops.{Closed}
use Rattle.plain_core.specs.steps.Closing.{GivesFirst, ClosedMoves}
use Rattle.plain_core.proofs.step_lemmas.Tasks.{closed_gave}
use Rattle.plain_core.proofs.steps.completer.close.Goals as goal

pub returns-in-Ok-true : goal.returns-in-Ok-true
returns-in-Ok-true c =
    let i = c.closed.inside in
    let held = c.give_first.new.held in
    let before : Closed = record { held = i.held; parent = i.parent; write = i.write; status = i.status } in
    subst (λ (cl : Closed). ClosedMoves c.args.objects.now c.args.writer cl c.args.what.now (Ok None) c.give_first.new.objects (record before { held = held })) c.closed.view_is
    (closed_gave c.args.objects.now c.give_first.new.objects c.args.writer before held c.args.what.now
    (subst (λ b. GivesFirst c.args.objects.now i.held.vector i.held.bio i.held.slip c.args.what.now (Ok b) c.give_first.new.objects held.vector held.bio held.slip) c.in-Ok-true.field-0-test
    c.in-Ok-true.ensures))
