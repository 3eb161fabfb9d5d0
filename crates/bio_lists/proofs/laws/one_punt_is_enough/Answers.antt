use Rattle.bio_lists.proofs.Punts as punts
use Rattle.bio_lists.proofs.laws.one_punt_is_enough.Goals as goal

pub returns : goal.returns
returns c = punts.one_punt_is_enough
