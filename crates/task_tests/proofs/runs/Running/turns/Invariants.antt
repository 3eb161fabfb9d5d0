use Rattle.task_core.specs.opened.OfOne.{AreOfOne}
use Rattle.task_tests.proofs.runs.Running.turns.Given as goal

abbrev pub invariant-turning : goal.invariant-turning
invariant-turning g l = AreOfOne l.self.objects l.self.tasks.items
