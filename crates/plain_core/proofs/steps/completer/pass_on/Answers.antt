use Rattle.std.proofs.Common.{Ok, subst}
use Rattle.bio_books.specs.Drops.{Closed}
use Rattle.plain_core.specs.declared.steps.task.PlainCarried.TheVariants as carried
use Rattle.plain_core.specs.steps.Closing.{PassesOn}
use Rattle.plain_core.proofs.step_lemmas.Tasks.{passed_done, passed_told}
use Rattle.plain_core.proofs.steps.completer.pass_on.Goals as goal

pub returns-in-Ok : goal.returns-in-Ok
returns-in-Ok c =
    let i = c.closed.inside in
    subst (λ (cl : Closed). PassesOn c.args.objects.now c.args.writer cl c.args.what.now (Ok carried.Empty) c.done.new.objects) c.closed.view_is
    (passed_done c.args.objects.now c.done.new.objects c.args.writer (record { held = i.held; parent = i.parent; write = i.write; status = i.status }) c.args.what.now c.in-None.is c.in-Ok.ensures)

pub returns-in-Ok-tell : goal.returns-in-Ok-tell
returns-in-Ok-tell c =
    let i = c.closed.inside in
    subst (λ (cl : Closed). PassesOn c.args.objects.now c.args.writer cl c.args.what.now (Ok c.after_drop.result) c.tell.new.objects) c.closed.view_is
    (passed_told c.args.objects.now c.tell.new.objects c.args.writer c.in-Some.parent (record { held = i.held; parent = i.parent; write = i.write; status = i.status }) c.args.what.now
    c.in-Ok-tell.ended c.after_drop.result c.in-Some.is c.in-Ok-tell.ensures c.after_drop.ensures)
