use Rattle.decl_text.proofs.DeclarationsFit.{accepted_fit}
use Rattle.decl_text.proofs.laws.accepted_stacks_are_fit.Goals as goal

pub returns : goal.returns
returns c = accepted_fit
