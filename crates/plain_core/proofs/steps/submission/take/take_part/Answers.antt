use Rattle.std.proofs.Common.{inl, inr, ap, ◌∙◌, Ok}
use Rattle.plain_core.proofs.object_lemmas.PoolAttempts.{part_had, part_missed, part_refused}
use Rattle.plain_core.proofs.steps.submission.take.take_part.Goals as goal

pub returns-in-Err : goal.returns-in-Err
returns-in-Err c =
    part_refused c.args.objects.now c.take.new.self c.args.set c.args.waits c.args.what.now c.bios_of-pool.result c.take.result c.in-Err.fault c.bios_of-pool.ensures c.in-Err.is c.take.ensures

pub returns-in-Ok-Missed : goal.returns-in-Ok-Missed
returns-in-Ok-Missed c =
    part_missed c.args.objects.now c.take.new.self c.args.set c.args.waits c.args.what.now c.bios_of-pool.result c.take.result c.bios_of-pool.ensures (c.in-Ok-Missed.is ∙ ap Ok c.in-Ok-Missed.field-0-is) c.take.ensures

pub returns-in-Ok-Ordinary : goal.returns-in-Ok-Ordinary
returns-in-Ok-Ordinary c =
    part_had c.args.objects.now c.take.new.self c.args.set c.args.waits c.args.what.now c.bios_of-pool.result c.take.result c.no.result c.of.result
    c.bios_of-pool.ensures c.no.ensures c.of.ensures (inl (c.in-Ok-Ordinary.is ∙ ap Ok c.in-Ok-Ordinary.field-0-is)) c.take.ensures

pub returns-in-Ok-Spare : goal.returns-in-Ok-Spare
returns-in-Ok-Spare c =
    part_had c.args.objects.now c.take.new.self c.args.set c.args.waits c.args.what.now c.bios_of-pool.result c.take.result c.no-in-Ok-Spare.result c.of-in-Ok-Spare.result
    c.bios_of-pool.ensures c.no-in-Ok-Spare.ensures c.of-in-Ok-Spare.ensures (inr (c.in-Ok-Spare.is ∙ ap Ok c.in-Ok-Spare.field-0-is)) c.take.ensures
