use Rattle.work_text.proofs.GeneratedTexts.{never_refused}
use Rattle.work_text.proofs.laws.no_generated_text_is_refused.Goals as goal

pub returns : goal.returns
returns c = never_refused
