use Rattle.biostack_top.proofs.LaidLemmas.{unlike_where_laid_differs as law}
use Rattle.biostack_top.proofs.laws.unlike_where_laid_differs.Goals as goal

pub returns : goal.returns
returns c = law
