use Rattle.task_core.specs.opened.OfOne.{AreOfOne}
use Rattle.shared_tests.proofs.chosen.ends_alone.Given as goal

abbrev pub invariant-stepping : goal.invariant-stepping
invariant-stepping l = AreOfOne l.objects l.tasks.items
