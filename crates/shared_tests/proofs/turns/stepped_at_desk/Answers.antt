use Rattle.std.proofs.Common.{ap, sym, subst, ◌∙◌}
use Rattle.shared_objects.specs.Holding.{DeskHolds}
use Rattle.shared_objects.specs.Rans.{ran_key}
use Rattle.shared_tests.proofs.AtDesks.{stands_again}
use Rattle.shared_tests.proofs.turns.stepped_at_desk.Goals as goal

pub of-requires : goal.of-requires
of-requires g c =
    let again = stands_again c.steps_keep_tasks.ensures c.args.ran c.parts-task.ensures.holds c.desk-desk.result.locks.now (c.requires ∙ sym c.desk-desk.ensures.0)
    c.parts-task.result.0 c.step-step.new.task c.parts-task.ensures.parts.0 c.desk-desk.result.seats c.step-step.new.self.seats c.back-seats.result (c.desk-desk.ensures.1 ∙ c.parts-task.ensures.parts.1)
    c.back-seats.ensures c.step-step.result c.step-step.ensures.turns
    (subst (λ locks. DeskHolds locks c.step-step.new.self.seats) c.step-step.ensures.locks c.step-step.ensures.kept.0) c.step-step.ensures.same c.seen.result
    c.parts-task.result.2 c.goes_on.new.self c.seen.ensures c.parts-task.ensures.parts.2 c.goes_on.ensures in record { holds = again.0 }

pub returns : goal.returns
returns g c =
    let again = stands_again c.steps_keep_tasks.ensures c.args.ran c.parts-task.ensures.holds c.desk-desk.result.locks.now (c.requires ∙ sym c.desk-desk.ensures.0)
    c.parts-task.result.0 c.step-step.new.task c.parts-task.ensures.parts.0 c.desk-desk.result.seats c.step-step.new.self.seats c.back-seats.result (c.desk-desk.ensures.1 ∙ c.parts-task.ensures.parts.1)
    c.back-seats.ensures c.step-step.result c.step-step.ensures.turns
    (subst (λ locks. DeskHolds locks c.step-step.new.self.seats) c.step-step.ensures.locks c.step-step.ensures.kept.0) c.step-step.ensures.same c.seen.result
    c.parts-task.result.2 c.goes_on.new.self c.seen.ensures c.parts-task.ensures.parts.2 c.goes_on.ensures in ap ran_key c.of.ensures ∙ again.1
