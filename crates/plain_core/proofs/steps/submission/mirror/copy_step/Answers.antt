use Rattle.plain_core.specs.steps.Views.{want_of_plain}
use Rattle.plain_core.specs.objects.Lists.{lists_of}
use Rattle.plain_core.specs.steps.Submissions.{copies_for}
use Rattle.plain_core.proofs.step_lemmas.Steps.{copy_punted, copy_not_punted, copy_linked, copy_not_linked}
use Rattle.plain_core.proofs.steps.submission.mirror.copy_step.Goals as goal

pub returns-in-Ok-punt-clause-steps : goal.returns-in-Ok-punt-clause-steps
returns-in-Ok-punt-clause-steps c =
    copy_punted c.args.routes.now c.args.objects.now c.punt.new.self c.args.copying.now c.args.want.now (lists_of c.args.lists.now) (lists_of c.punt.new.lists) c.args.what.now
    c.stay-in-Ok-punt.result (want_of_plain c.stay-in-Ok-punt.new.want)
    c.in-Punts.is c.in-Ok-punt.ensures c.stay-in-Ok-punt.ensures.stays c.stay-in-Ok-punt.ensures.want

pub returns-in-Err-punt-clause-steps : goal.returns-in-Err-punt-clause-steps
returns-in-Err-punt-clause-steps c =
    copy_not_punted c.args.routes.now c.args.objects.now c.punt.new.self c.args.copying.now c.args.want.now (lists_of c.args.lists.now) (lists_of c.punt.new.lists) c.args.what.now
    c.in-Err-punt.fault c.in-Punts.is c.in-Err-punt.ensures

pub returns-in-Err-open_leg-clause-steps : goal.returns-in-Err-open_leg-clause-steps
returns-in-Err-open_leg-clause-steps c =
    copy_not_linked c.args.routes.now c.args.objects.now c.open_leg.new.self c.args.copying.now c.in-Links.hand c.args.want.now (lists_of c.args.lists.now) (lists_of c.open_leg.new.lists) c.args.what.now
    c.in-Err-open_leg.fault c.in-Links.is c.open_leg.ensures.same c.in-Err-open_leg.ensures.joins

pub returns-in-Ok-open_leg-clause-steps : goal.returns-in-Ok-open_leg-clause-steps
returns-in-Ok-open_leg-clause-steps c =
    copy_linked c.args.routes.now c.args.objects.now c.open_leg.new.self c.args.copying.now c.in-Links.hand c.args.want.now (lists_of c.args.lists.now) (lists_of c.open_leg.new.lists) (lists_of c.copy.new.lists) c.args.what.now
    c.copy_on.result (copies_for c.copy_on.new.copying (want_of_plain c.copy_on.new.want)) c.in-Ok-open_leg.node
    c.in-Links.is c.open_leg.ensures.same c.copy.ensures.copied c.copy_on.ensures.copies c.in-Ok-open_leg.ensures.joins
