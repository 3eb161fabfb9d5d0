use Rattle.task_core.specs.opened.OfOne.{AreOfOne}
use Rattle.task_tests.proofs.runs.Running.ends.Given as goal

abbrev pub invariant-ending : goal.invariant-ending
invariant-ending g l = AreOfOne l.self.objects l.self.tasks.items
