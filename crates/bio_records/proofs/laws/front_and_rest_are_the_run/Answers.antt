use Rattle.bio_records.proofs.RunLemmas as lemmas
use Rattle.bio_records.proofs.laws.front_and_rest_are_the_run.Goals as goal

pub returns : goal.returns
returns c = lemmas.front_and_rest_are_the_run
