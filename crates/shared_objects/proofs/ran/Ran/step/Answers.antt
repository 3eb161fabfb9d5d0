use Rattle.std.proofs.Common.{sym, ◌∙◌, ap, subst}
use Rattle.shared_objects.specs.Noting.{NotesStep}
use Rattle.shared_objects.specs.Rans.{ChosenWith, RanState, TurnsWith, ran_key}
use Rattle.shared_objects.proofs.logs.RanHolds.{calls_keep, calls_keep_number}
use Rattle.shared_objects.proofs.ran.Ran.step.Goals as goal

-- src/ran.rt
pub invariant_of-self : goal.invariant_of-self
invariant_of-self g c =
    calls_keep _ c.self.invariant c.step-step.new.task c.step-step.result c.args.locks.now c.step-step.new.self.locks.now c.step-step.new.self.seats.now
    (sym c.requires.home ∙ sym (ap (λ r. r.home) c.self.view_is)) c.step-step.ensures.locks c.step-step.ensures.turns
    c.step-step.ensures.kept.0 c.step-step.ensures.same c.record_step.new.events c.record_step.new.stopped c.record_step.new.noted c.record_step.ensures.events c.record_step.ensures.stopped
    (subst (λ n. NotesStep c.step-step.result n c.self.inside.noted c.record_step.new.noted) c.seen_by-seen.ensures c.record_step.ensures.noted)

pub returns-clause-key : goal.returns-clause-key
returns-clause-key g c =
    ap (λ n. record { first = c.self.inside.first.value; home = c.self.inside.home.value; number = n })
    (calls_keep_number _ c.self.invariant c.step-step.new.task c.step-step.result c.args.locks.now c.step-step.new.self.locks.now c.step-step.new.self.seats.now
    (sym c.requires.home ∙ sym (ap (λ r. r.home) c.self.view_is)) c.step-step.ensures.locks c.step-step.ensures.turns)
    ∙ ap ran_key c.self.view_is

pub returns-clause-turns : goal.returns-clause-turns
returns-clause-turns g c =
    subst (λ (r : RanState). TurnsWith c.args.locks.now r.task r.seats c.step-step.new.task c.step-step.new.self.seats.now c.step-step.result) c.self.view_is
    c.step-step.ensures.turns

pub returns-clause-chosen : goal.returns-clause-chosen
returns-clause-chosen g c =
    subst (λ (r : RanState). ChosenWith g.C.Chooser.chooses r.task.state r.seats c.step-step.new.self.seats.now c.args.chooser.now c.step-step.result c.step-step.new.chooser)
    c.self.view_is c.step-step.ensures.chosen
