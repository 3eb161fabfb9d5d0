use Rattle.work_text.proofs.WholeRefusals.{rest_decides}
use Rattle.work_text.proofs.laws.rests_decide.Goals as goal

pub returns : goal.returns
returns c = λ loose text read stack scripts short is none means. rest_decides (record { short = short; is = is; none = none; means = means })
