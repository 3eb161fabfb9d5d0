-- An accepted stack is fit.
use Rattle.decl_text.proofs.DeclarationsFit.{accepted_fit}
use Rattle.work_text.proofs.read_numbered.Goals as goal

pub read_line-requires-clause-fit : goal.read_line-requires-clause-fit
read_line-requires-clause-fit c = accepted_fit c.args.accepted.now
