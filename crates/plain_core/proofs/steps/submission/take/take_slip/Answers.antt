use Rattle.std.proofs.Common.{inl, inr, ap, ◌∙◌, Ok}
use Rattle.plain_core.proofs.object_lemmas.PoolAttempts.{slip_had, slip_missed, slip_refused}
use Rattle.plain_core.proofs.steps.submission.take.take_slip.Goals as goal

pub returns-in-Err : goal.returns-in-Err
returns-in-Err c = slip_refused c.args.objects.now c.take.new.self c.args.dev c.args.what.now c.take.result c.in-Err.fault c.in-Err.is c.take.ensures

pub returns-in-Ok-Missed : goal.returns-in-Ok-Missed
returns-in-Ok-Missed c = slip_missed c.args.objects.now c.take.new.self c.args.dev c.args.what.now c.take.result (c.in-Ok-Missed.is ∙ ap Ok c.in-Ok-Missed.field-0-is) c.take.ensures

pub returns-in-Ok-Ordinary : goal.returns-in-Ok-Ordinary
returns-in-Ok-Ordinary c =
    slip_had c.args.objects.now c.take.new.self c.args.dev c.args.what.now c.take.result c.no.result c.clear.result
    c.no.ensures c.clear.ensures (inl (c.in-Ok-Ordinary.is ∙ ap Ok c.in-Ok-Ordinary.field-0-is)) c.take.ensures

pub returns-in-Ok-Spare : goal.returns-in-Ok-Spare
returns-in-Ok-Spare c =
    slip_had c.args.objects.now c.take.new.self c.args.dev c.args.what.now c.take.result c.no-in-Ok-Spare.result c.clear-in-Ok-Spare.result
    c.no-in-Ok-Spare.ensures c.clear-in-Ok-Spare.ensures (inr (c.in-Ok-Spare.is ∙ ap Ok c.in-Ok-Spare.field-0-is)) c.take.ensures
