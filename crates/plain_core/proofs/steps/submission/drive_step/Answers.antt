use Rattle.std.proofs.Common.{ap, ◌∙◌, subst, Ok}
use Rattle.bio_records.specs.declared.bio.Bio.{Bio}
use Rattle.run_machine.specs.Submissions.{legs_of}
use Rattle.stack_base.specs.Tree.{tree}
use Rattle.plain_core.specs.steps.Views.{ask_of_plain}
use Rattle.plain_core.specs.objects.Lists.{lists_of}
use Rattle.plain_core.specs.steps.Submissions.{drives_for}
use Rattle.plain_core.specs.steps.Takes.{TakesSlip}
use Rattle.plain_core.proofs.step_lemmas.Steps.{drive_pushed, drive_not_pushed, drive_missed, drive_recorded, drive_mastered, drive_not_mastered}
use Rattle.plain_core.proofs.steps.submission.drive_step.Goals as goal

pub returns-in-Ok-clause-steps : goal.returns-in-Ok-clause-steps
returns-in-Ok-clause-steps c =
    drive_pushed c.args.routes.now c.args.objects.now c.push.new.self c.args.part.now c.args.ask.now (lists_of c.args.lists.now) (lists_of c.push.new.lists) c.args.what.now
    (drives_for c.args.part.now (ask_of_plain c.args.ask.now)) c.bio-bio.result.dev
    c.in-ToPush.is (ap (λ (b : Bio). b.dev) c.bio-bio.ensures) c.push.ensures.same c.in-Ok.ensures.pushes

pub returns-in-Err-clause-steps : goal.returns-in-Err-clause-steps
returns-in-Err-clause-steps c =
    drive_not_pushed c.args.routes.now c.args.objects.now c.push.new.self c.args.part.now c.args.ask.now (lists_of c.args.lists.now) (lists_of c.push.new.lists) c.args.what.now
    c.in-Err.fault c.in-ToPush.is c.push.ensures.same c.in-Err.ensures.pushes

pub returns-in-Ok-None-clause-steps : goal.returns-in-Ok-None-clause-steps
returns-in-Ok-None-clause-steps c =
    drive_missed c.args.routes.now c.args.objects.now c.take_slip.new.objects c.args.part.now c.args.ask.now (lists_of c.args.lists.now) c.args.what.now c.bio-bio.result.dev
    c.in-ToRecord.is (ap (λ (b : Bio). b.dev) c.bio-bio.ensures)
    (subst (λ r. TakesSlip c.args.objects.now c.bio-bio.result.dev c.args.what.now r c.take_slip.new.objects) (c.in-Ok-None.is ∙ ap Ok c.in-Ok-None.field-0-is) c.take_slip.ensures)

pub returns-in-Ok-Some-clause-steps : goal.returns-in-Ok-Some-clause-steps
returns-in-Ok-Some-clause-steps c =
    drive_recorded c.args.routes.now c.args.objects.now c.take_slip.new.objects c.args.part.now c.in-Ok-Some.slip c.args.ask.now (lists_of c.args.lists.now) c.args.what.now c.bio-bio.result.dev
    c.in-ToRecord.is (ap (λ (b : Bio). b.dev) c.bio-bio.ensures)
    (subst (λ r. TakesSlip c.args.objects.now c.bio-bio.result.dev c.args.what.now r c.take_slip.new.objects) (c.in-Ok-Some.is ∙ ap Ok c.in-Ok-Some.field-0-is) c.take_slip.ensures)

pub returns-in-Ok-open_master-clause-steps : goal.returns-in-Ok-open_master-clause-steps
returns-in-Ok-open_master-clause-steps c =
    drive_mastered c.args.routes.now c.args.objects.now c.open_master.new.self c.args.part.now c.in-ToMaster.slip c.args.ask.now (lists_of c.args.lists.now) (lists_of c.open_master.new.lists) c.args.what.now
    (drives_for c.args.part.now (ask_of_plain c.args.ask.now)) c.bio-bio.result c.legs.result c.in-Ok-open_master.node
    c.in-ToMaster.is c.bio-bio.ensures (c.legs.ensures ∙ ap (λ (b : Bio). legs_of (tree c.args.routes.now.stack b.dev.0)) c.bio-bio.ensures) c.open_master.ensures.same c.in-Ok-open_master.ensures.joins

pub returns-in-Err-open_master-clause-steps : goal.returns-in-Err-open_master-clause-steps
returns-in-Err-open_master-clause-steps c =
    drive_not_mastered c.args.routes.now c.args.objects.now c.open_master.new.self c.args.part.now c.in-ToMaster.slip c.args.ask.now (lists_of c.args.lists.now) (lists_of c.open_master.new.lists) c.args.what.now
    c.legs.result c.in-Err-open_master.fault
    c.in-ToMaster.is (c.legs.ensures ∙ ap (λ (b : Bio). legs_of (tree c.args.routes.now.stack b.dev.0)) c.bio-bio.ensures) c.open_master.ensures.same c.in-Err-open_master.ensures.joins
