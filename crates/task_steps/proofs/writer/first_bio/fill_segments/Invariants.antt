use Rattle.std.proofs.Common.{◌≡◌, length}
use Rattle.task_steps.proofs.writer.first_bio.fill_segments.Given as goal

-- a place for each segment
abbrev pub invariant-making : goal.invariant-making
invariant-making g l = length l.into.items ≡ l.counter
