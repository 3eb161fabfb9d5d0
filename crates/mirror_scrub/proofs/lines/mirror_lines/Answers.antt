-- What says the lines of the other members completes all of them.
use Rattle.std.proofs.Common.{◌<◌, ◌≤◌, arith}
use Rattle.stack_base.specs.Tree.{tree, legs_of}
use Rattle.mirror_scrub.specs.Seen.{held}
use Rattle.mirror_scrub.specs.Text.{leg_lines, mirror_lines}
use Rattle.mirror_scrub.proofs.LineLemmas.{numbers_end, numbers_on}
use Rattle.mirror_scrub.proofs.lines.mirror_lines.Goals as goal

pub legs-init : goal.legs-init
unfolding mirror_lines
legs-init g c = record { some = omega arith; so_far = λ end pen said. said }

pub legs-preserved : goal.legs-preserved
legs-preserved g c =
    let t = tree c.args.stack.now c.args.mirror.0 in
    let inside : c.legs.leg < legs_of t = omega (arith, c.legs-test.true, c.legs-leg-end.ensures) in
    record {
      some = omega arith;
      so_far = λ end pen said. c.legs.invariant.so_far end pen
          (numbers_on (leg_lines c.args.stack.now (held c.args.disks.now) c.args.mirror.0) c.legs.leg (legs_of t) inside c.leg_lines.ensures said);
    }

pub returns : goal.returns
returns g c =
    let t = tree c.args.stack.now c.args.mirror.0 in
    let past : legs_of t ≤ c.legs.leg = omega (arith, c.legs-test.false, c.legs-leg-end.ensures) in
    c.legs.invariant.so_far _ _
    (numbers_end g.K.Sink c.legs.out c.legs.pen (leg_lines c.args.stack.now (held c.args.disks.now) c.args.mirror.0)
    c.legs.leg (legs_of t) past)
