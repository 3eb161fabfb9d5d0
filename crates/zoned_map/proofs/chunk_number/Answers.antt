use Rattle.std.proofs.Common.{◌^◌, ◌<◌, min, arith}
use Rattle.std.specs.Prelude.{slice_index}
use Rattle.std.proofs.lemmas.List.Sums.{get_or-le-sum_by}
use Rattle.zoned_map.proofs.Counting.{counted_beside, counted_without, counted_past, counted_all}
use Rattle.zoned_map.proofs.chunk_number.Goals as goal
use Rattle.zoned_map.proofs.chunk_number.Goals.{then-place-member+then-row-count, else-place-member, else-place-member-via-then-place-member+else-row-count, else-place-member-via-else-place-member}

pub loop-place-preserved : goal.loop-place-preserved
loop-place-preserved c =
    let counts = c.args.counts.now in
    let place = c.loop-place.place in
    let least : min (slice_index counts place) c.args.row < 2 ^ 32 =
    omega (arith, get_or-le-sum_by (λ x. x) counts place 0 c.loop-place-test.true, c.requires.small) in
    elim c.if-place-member.branch [
      | then-place-member+then-row-count w ↦
          counted_beside counts c.args.member c.args.row c.loop-place.number place c.loop-place.invariant least c.if-place-member.number
          (omega (arith, w.number-is, c.min-number.ensures)) w.if-place-member.true w.if-row-count.true
      | else-place-member w ↦ elim w.else-place-member.branch [
        | else-place-member-via-then-place-member+else-row-count v ↦
            counted_without counts c.args.member c.args.row c.loop-place.number place c.loop-place.invariant least c.if-place-member.number
            (omega (arith, w.number-is, c.min-number.ensures)) (omega (arith, v.if-row-count.false))
        | else-place-member-via-else-place-member v ↦
            counted_past counts c.args.member c.args.row c.loop-place.number place c.loop-place.invariant least c.if-place-member.number
            (omega (arith, w.number-is, c.min-number.ensures)) (omega (arith, v.if-place-member.false))
      ]
    ]

pub returns : goal.returns
returns c =
    counted_all c.args.counts.now c.args.member c.args.row c.loop-place.number c.loop-place.place c.loop-place.invariant
    (omega (arith, c.loop-place-test.false, c.loop-place.auto.place-end)) c.requires.member
