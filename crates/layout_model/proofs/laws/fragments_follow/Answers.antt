use Rattle.layout_model.proofs.SectorsFollow.{fragments_follow}
use Rattle.layout_model.proofs.laws.fragments_follow.Goals as goal

pub returns : goal.returns
returns c = fragments_follow
