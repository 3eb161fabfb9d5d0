use Rattle.biostack_words.proofs.Few.{few_workers}
use Rattle.biostack_words.proofs.laws.workers_are_few.Goals as goal

pub returns : goal.returns
returns c = few_workers
