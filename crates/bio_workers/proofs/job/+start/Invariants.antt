use Rattle.bio_workers.proofs.job.+start.Given as goal

abbrev pub decreases-start : goal.decreases-start
decreases-start g l = l.worker
