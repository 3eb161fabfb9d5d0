use Rattle.task_core.specs.opened.OfOne.{states}
use Rattle.plain_core.proofs.opening_lemmas.SlotsRise.{AreSeen}
use Rattle.plain_core.proofs.opening.seen_tasks.tasks_seen.Given as goal

abbrev pub invariant-seeing : goal.invariant-seeing
invariant-seeing l = AreSeen (states l.tasks) l.i l.seen.items l.places.items
