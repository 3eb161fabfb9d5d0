use Rattle.std.proofs.Common.{◌≡◌, ℕ, ◌<◌, get_or}
use Rattle.bio_records.specs.declared.segment.Segment.{Segment}
use Rattle.bio_records.specs.Segments.{segment_at}
use Rattle.bio_records.proofs.segment.fill.Given as goal

-- the segments before this place stand there
abbrev pub invariant-loop-place : goal.invariant-loop-place
invariant-loop-place l = (k : ℕ) (d : Segment) → k < l.place → get_or l.into k d ≡ segment_at l.first l.count k
