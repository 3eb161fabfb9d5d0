use Rattle.bio_books.proofs.Ends as ends
use Rattle.bio_books.proofs.laws.the_first_failure_is_kept.Goals as goal

pub returns : goal.returns
returns c = ends.the_first_failure_is_kept
