use Rattle.std.proofs.Common.{get_or}
use Rattle.serial_run.proofs.Attempts.{at_place, home_at, routing_at, tried, kept_one}
use Rattle.serial_run.proofs.turn.attempt.Goals as goal

-- src/turn.rt
pub returns-clause-tried : goal.returns-clause-tried
returns-clause-tried g c =
    tried c.args.objects.now c.step-step.new.objects c.args.tasks.now c.args.place c.requires.place
    (get_or c.args.tasks.now c.args.place c.index-tasks-place.result) c.step-step.new.self
    (at_place c.args.tasks.now c.args.place c.requires.place c.index-tasks-place.result)
    (routing_at c.args.objects.now c.args.tasks.now c.args.place c.requires.place c.index-tasks-place.result c.requires.one) c.requires.one
    (home_at c.args.objects.now c.args.tasks.now c.args.place c.requires.place c.index-tasks-place.result c.requires.one) c.requires.well
    g.V.Events.happens c.args.schedule.now c.step-step.new.chooser c.args.events.now c.hand_on.new.events c.hand_on.result c.step-step.result
    c.step-step.ensures.does.came c.step-step.ensures.chosen c.hand_on.ensures

pub returns-clause-one : goal.returns-clause-one
returns-clause-one g c =
    kept_one c.args.objects.now c.step-step.new.objects c.args.tasks.now c.args.place c.requires.place c.index-tasks-place.result c.step-step.new.self
    c.step-step.result c.requires.one (c.step-step.ensures.does.held, c.step-step.ensures.does.same) c.step-step.ensures.same c.step-step.ensures.does.came
