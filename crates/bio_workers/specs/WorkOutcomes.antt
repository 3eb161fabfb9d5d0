-- What steps came to.
use Rattle.bio_workers.specs.declared.work.WorkOutcome.{WorkOutcome}
use Rattle.bio_workers.specs.declared.work.WorkOutcome.TheVariants.{Happened, Nothing, Over}

-- Something happened if it did in either. No task goes on if none does in both.
abbrev pub both : WorkOutcome → WorkOutcome → WorkOutcome
both Over b = b
both Nothing Happened = Happened
both Nothing Nothing = Nothing
both Nothing Over = Nothing
both Happened b = Happened
