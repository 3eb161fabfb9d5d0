use Rattle.task_steps.specs.Routed.{routing_setup}
use Rattle.task_steps.proofs.writer.Writer.begin.Goals as goal

-- what it does for its next write once it has looked at the round is its step
pub returns-else-has_bio : goal.returns-else-has_bio
returns-else-has_bio g c = record { does = c.look.ensures.does (routing_setup c.args.routes.now) }
