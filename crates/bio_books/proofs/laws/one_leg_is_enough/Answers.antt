use Rattle.bio_books.proofs.Ends as ends
use Rattle.bio_books.proofs.laws.one_leg_is_enough.Goals as goal

pub returns : goal.returns
returns c = ends.one_leg_is_enough
