use Rattle.bio_records.proofs.SegmentLemmas as lemmas
use Rattle.bio_records.proofs.laws.segments_are_the_run.Goals as goal

pub returns : goal.returns
returns c = lemmas.segments_are_the_run
