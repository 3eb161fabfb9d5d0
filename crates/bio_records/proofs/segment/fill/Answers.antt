use Rattle.std.proofs.Common.{arith}
use Rattle.std.proofs.lemmas.List.FromFn.{fill_by_all}
use Rattle.bio_records.specs.declared.segment.Segment.{Segment}
use Rattle.stack_base.specs.Segments.{segment_count}
use Rattle.bio_records.specs.Segments.{segment_at}
use Rattle.bio_records.proofs.segment.fill.Goals as goal

-- at the end a segment stands at each place
pub returns : goal.returns
returns c =
    let other : Segment = record { word = 0; sectors = 0 } in
    fill_by_all (λ i. segment_at c.args.first c.args.count i) c.loop-place.into (segment_count c.args.count) other (omega arith)
    (λ k within. c.loop-place.invariant k other (omega arith))
