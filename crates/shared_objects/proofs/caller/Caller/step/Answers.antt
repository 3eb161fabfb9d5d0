use Rattle.std.proofs.Common.{◌≡◌, refl, ◌∙◌}
use Rattle.task_steps.specs.Stage.{Owes}
use Rattle.task_steps.specs.Routed.{routing_setup}
use Rattle.shared_objects.specs.Desks.{DeskPicks, DeskServes}
use Rattle.shared_objects.specs.Holding.{desk_of, stage_at}
use Rattle.shared_objects.proofs.steps.ChoicesSeen.{choices_seen}
use Rattle.shared_objects.proofs.steps.TurnsSeen.{turns_keep, turns_seen}
use Rattle.shared_objects.proofs.caller.Caller.step.Goals as goal

-- src/caller/steps.rt
pub returns-clause-turns : goal.returns-clause-turns
returns-clause-turns g c =
    turns_seen _ (λ caller. desk_of caller.seats.now) DeskServes (λ old asked reply new served. served.0) (Owes (stage_at c.args.self.now.locks.now)) (routing_setup c.args.task.now.routing)
    c.args.task.now.state c.step.new.self.state c.args.self.now c.step.new.objects c.step.result c.step.ensures.does.came

pub returns-clause-chosen : goal.returns-clause-chosen
returns-clause-chosen g c =
    choices_seen (λ caller. desk_of caller.seats.now) g.C.Chooser.chooses (DeskPicks (desk_of c.args.self.now.seats.now)) c.step.new.objects
    c.args.chooser.now c.step.new.chooser c.args.task.now.state c.step.result c.step.ensures.chosen

pub returns-clause-locks : goal.returns-clause-locks
returns-clause-locks g c =
    turns_keep _ (λ old new. new.locks.now ≡ old.locks.now) (λ old. refl) (λ old middle new one two. two ∙ one) (λ old asked reply new served. served.1)
    (Owes (stage_at c.args.self.now.locks.now)) (routing_setup c.args.task.now.routing)
    c.args.task.now.state c.step.new.self.state c.args.self.now c.step.new.objects c.step.result c.step.ensures.does.came

pub returns-clause-lent : goal.returns-clause-lent
returns-clause-lent g c =
    turns_keep _ (λ old new. new.seats.ghost_name ≡ old.seats.ghost_name) (λ old. refl) (λ old middle new one two. two ∙ one) (λ old asked reply new served. served.2)
    (Owes (stage_at c.args.self.now.locks.now)) (routing_setup c.args.task.now.routing)
    c.args.task.now.state c.step.new.self.state c.args.self.now c.step.new.objects c.step.result c.step.ensures.does.came
