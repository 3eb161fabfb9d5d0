use Rattle.bio_split.proofs.SplitLemmas
use Rattle.bio_split.proofs.laws.parts_are_the_whole.Goals as goal

pub returns : goal.returns
returns c = SplitLemmas.parts_are_the_whole
