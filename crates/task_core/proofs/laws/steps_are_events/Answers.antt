use Rattle.task_core.proofs.laws.steps_are_events.Goals as goal
use Rattle.task_core.proofs.opened.StepsAreEvents.{steps_are_events}

pub returns : goal.returns
returns c = steps_are_events
