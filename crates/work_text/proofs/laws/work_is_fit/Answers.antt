use Rattle.work_text.proofs.WorkFits.{work_is_fit}
use Rattle.work_text.proofs.laws.work_is_fit.Goals as goal

-- src/laws.rt
pub returns : goal.returns
returns c = work_is_fit
