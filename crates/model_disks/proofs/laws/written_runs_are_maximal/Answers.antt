use Rattle.model_disks.proofs.MaximalLemmas as lemmas
use Rattle.model_disks.proofs.laws.written_runs_are_maximal.Goals as goal

pub returns : goal.returns
returns c = lemmas.written_runs_are_maximal
