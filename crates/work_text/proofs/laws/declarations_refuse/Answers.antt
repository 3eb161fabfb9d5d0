use Rattle.work_text.proofs.WholeRefusals.{refused_first}
use Rattle.work_text.proofs.laws.declarations_refuse.Goals as goal

pub returns : goal.returns
returns c = refused_first
