use Rattle.bio_lists.proofs.Punts as punts
use Rattle.bio_lists.proofs.laws.none_is_lost_by_punt.Goals as goal

pub returns : goal.returns
returns c = punts.none_is_lost_by_punt
