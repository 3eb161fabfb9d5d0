use Rattle.std.proofs.Common.{◌≡◌, ap, ◌∙◌, length, arith}
use Rattle.biostack_tests.proofs.SlowAmong.{from_here, from_next, from_end}
use Rattle.biostack_tests.proofs.slow.among.Goals as goal

pub returns-then-at-size : goal.returns-then-at-size
returns-then-at-size c =
    from_here c.args.sizes.now c.args.sector c.loop-member.member c.loop-member.at c.loop-member.invariant c.loop-member-test.true c.if-at-size.true

pub loop-member-preserved : goal.loop-member-preserved
loop-member-preserved c =
    from_next c.args.sizes.now c.args.sector c.loop-member.member c.loop-member.at c.loop-member.invariant c.loop-member-test.true (omega (arith, c.if-at-size.false))

-- it has passed them all
pub returns : goal.returns
returns c =
    let all : c.loop-member.member ≡ length c.args.sizes.now = omega (arith, c.loop-member.auto.member-end, c.loop-member-test.false) in
    from_end c.args.sizes.now c.args.sector c.loop-member.member c.loop-member.at c.loop-member.invariant c.loop-member-test.false
    ∙ ap (λ k. record { member = k; at = 0 }) all
