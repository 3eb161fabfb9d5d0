use Rattle.stack_base.proofs.DeclaredBounds.{declared_stack}
use Rattle.stack_base.proofs.laws.declared_is_stack.Goals as goal

pub returns : goal.returns
returns c = declared_stack
