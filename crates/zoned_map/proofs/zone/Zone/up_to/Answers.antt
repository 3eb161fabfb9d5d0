use Rattle.std.proofs.Common.{◌≡◌, ℕ, ◌*◌, ◌-◌, ◌<◌, length, ap, ◌∙◌, arith}
use Rattle.std.specs.Prelude.{nat_le, slice_index}
use Rattle.std.proofs.lemmas.Bool.{le-leb, lt-leb}
use Rattle.stack_base.specs.Mapping.{reaching}
use Rattle.stack_base.proofs.Passing.{passing}
use Rattle.zoned_map.proofs.Ranges.{passing_push, passing_skip, passing_few}
use Rattle.zoned_map.proofs.zone.Zone.up_to.Goals as goal
use Rattle.zoned_map.proofs.zone.Zone.up_to.Goals.{then-level-count, else-level-count}

-- there is room for each member
pub push-requires : goal.push-requires
push-requires c =
    let test = λ (i : ℕ). nat_le c.args.level (slice_index c.args.counts.now i) in
    let room : length c.loop-member.members.items < 8 =
    omega (arith, ap length c.loop-member.invariant, passing_few test 0 c.loop-member.member, c.loop-member-test.true, c.requires.few) in
    (omega arith, room)

pub loop-member-preserved : goal.loop-member-preserved
loop-member-preserved c =
    let place = c.loop-member.member in
    let test = λ (i : ℕ). nat_le c.args.level (slice_index c.args.counts.now i) in
    elim c.if-level-count.branch [
      | then-level-count w ↦
          let is = w.members-is in
          let pushed = w.push.ensures.items in
          let before = c.loop-member.invariant in
          let one = passing_push test place (le-leb c.args.level (slice_index c.args.counts.now place) w.if-level-count.true) in
          cc
      | else-level-count w ↦
          let is = w.members-is in
          let before = c.loop-member.invariant in
          let one = passing_skip test place (lt-leb c.args.level (slice_index c.args.counts.now place) (omega (arith, w.if-level-count.false))) in
          cc
    ]

pub returns-clause-members : goal.returns-clause-members
unfolding reaching
returns-clause-members c =
    let all : c.loop-member.member ≡ length c.args.counts.now = omega (arith, c.loop-member-test.false, c.loop-member.auto.member-end) in
    c.loop-member.invariant ∙ ap (λ n. passing (λ i. nat_le c.args.level (slice_index c.args.counts.now i)) 0 n) all

pub returns-clause-chunks : goal.returns-clause-chunks
unfolding reaching
returns-clause-chunks c =
    let all : c.loop-member.member ≡ length c.args.counts.now = omega (arith, c.loop-member-test.false, c.loop-member.auto.member-end) in
    ap (λ n. n * (c.args.level - c.args.base)) (c.len.ensures.value ∙ ap length c.loop-member.invariant
    ∙ ap (λ n. length (passing (λ i. nat_le c.args.level (slice_index c.args.counts.now i)) 0 n)) all)
