use Rattle.layout_model.proofs.OneWay.{one_way_a_round}
use Rattle.layout_model.proofs.laws.one_way_a_round.Goals as goal

-- src/laws.rt
pub returns : goal.returns
returns c = one_way_a_round
