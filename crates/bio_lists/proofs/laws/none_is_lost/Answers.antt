use Rattle.bio_lists.proofs.Orders as orders
use Rattle.bio_lists.proofs.laws.none_is_lost.Goals as goal

-- src/laws.rt:5:1
pub returns : goal.returns
returns c = orders.none_is_lost
