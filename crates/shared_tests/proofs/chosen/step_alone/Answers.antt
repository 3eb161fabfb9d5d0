use Rattle.task_tests.proofs.ScenarioStays.{stays_of_one}
use Rattle.shared_tests.proofs.chosen.step_alone.Goals as goal

pub returns : goal.returns
returns c =
    let there = c.in_ok-task.ensures.item in
    stays_of_one c.args.objects.now c.step.new.objects c.args.tasks.now.items c.args.place there.3.0 c.in_ok-task.task.now c.step.new.self there.1
    c.requires c.step.result (c.step.ensures.does.held, c.step.ensures.does.same) c.step.ensures.same c.step.ensures.does.came
