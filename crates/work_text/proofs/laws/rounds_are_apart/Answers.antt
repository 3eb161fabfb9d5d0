use Rattle.work_text.proofs.RoundsApart.{rounds_apart}
use Rattle.work_text.proofs.laws.rounds_are_apart.Goals as goal

pub returns : goal.returns
returns c = rounds_apart
