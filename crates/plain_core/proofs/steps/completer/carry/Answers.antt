use Rattle.plain_core.proofs.step_lemmas.Tasks.{carried_completed, carried_told}
use Rattle.plain_core.proofs.steps.completer.carry.Goals as goal

pub returns-in-Ok : goal.returns-in-Ok
returns-in-Ok c =
    carried_completed c.args.objects.now c.complete.new.objects c.args.disk c.args.carried.now c.args.what.now c.in-Ok.field-0-0 c.in-Ok.part c.in-Ok.status c.in-Empty.is c.in-Ok.ensures

pub returns-in-Ok-tell : goal.returns-in-Ok-tell
returns-in-Ok-tell c =
    carried_told c.args.objects.now c.tell.new.objects c.args.disk c.args.carried.now c.args.what.now c.in-Brings.part c.again.result c.bio-bio.result c.in-Brings.status c.in-Ok-tell.ended c.after_drop.result
    c.in-Brings.is c.bio-bio.ensures c.again.ensures c.in-Ok-tell.ensures c.after_drop.ensures
