use Rattle.std.proofs.Common.{ap}
use Rattle.bio_records.specs.declared.bio.Bio.{Bio}
use Rattle.plain_core.specs.steps.Views.{want_of_plain}
use Rattle.plain_core.specs.objects.Lists.{lists_of}
use Rattle.plain_core.specs.steps.Submissions.{cuts_for}
use Rattle.plain_core.proofs.step_lemmas.Steps.{cut_punted, cut_not_punted, cut_linked, cut_not_linked}
use Rattle.plain_core.proofs.steps.submission.cut.cut_step.Goals as goal

pub returns-in-Ok-punt-clause-steps : goal.returns-in-Ok-punt-clause-steps
returns-in-Ok-punt-clause-steps c =
    cut_punted c.args.routes.now c.args.objects.now c.punt.new.self c.args.part.now c.args.want.now (lists_of c.args.lists.now) (lists_of c.punt.new.lists) c.args.what.now c.bio-bio.result.dev
    c.stay-in-Ok-punt.result (want_of_plain c.stay-in-Ok-punt.new.want)
    c.in-Punts.is (ap (λ (b : Bio). b.dev) c.bio-bio.ensures) c.in-Ok-punt.ensures c.stay-in-Ok-punt.ensures.stays c.stay-in-Ok-punt.ensures.want

pub returns-in-Err-punt-clause-steps : goal.returns-in-Err-punt-clause-steps
returns-in-Err-punt-clause-steps c =
    cut_not_punted c.args.routes.now c.args.objects.now c.punt.new.self c.args.part.now c.args.want.now (lists_of c.args.lists.now) (lists_of c.punt.new.lists) c.args.what.now c.bio-bio.result.dev
    c.in-Err-punt.fault c.in-Punts.is (ap (λ (b : Bio). b.dev) c.bio-bio.ensures) c.in-Err-punt.ensures

pub returns-in-Err-open_chain-clause-steps : goal.returns-in-Err-open_chain-clause-steps
returns-in-Err-open_chain-clause-steps c =
    cut_not_linked c.args.routes.now c.args.objects.now c.open_chain.new.self c.args.part.now c.in-Links.hand c.args.want.now (lists_of c.args.lists.now) (lists_of c.open_chain.new.lists) c.args.what.now
    c.bio-bio.result c.in-Err-open_chain.fault c.in-Links.is c.bio-bio.ensures c.open_chain.ensures.same c.in-Err-open_chain.ensures.joins

pub returns-in-Ok-open_chain-clause-steps : goal.returns-in-Ok-open_chain-clause-steps
returns-in-Ok-open_chain-clause-steps c =
    cut_linked c.args.routes.now c.args.objects.now c.open_chain.new.self c.args.part.now c.in-Links.hand c.args.want.now (lists_of c.args.lists.now) (lists_of c.open_chain.new.lists) (lists_of c.cut.new.lists) c.args.what.now
    (cuts_for c.args.part.now (want_of_plain c.args.want.now)) c.bio-bio.result c.in-Ok-open_chain.node
    c.in-Links.is c.bio-bio.ensures c.open_chain.ensures.same c.cut.ensures.cut c.in-Ok-open_chain.ensures.joins
