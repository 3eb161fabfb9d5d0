-- What says the lines of the other stretches completes all of them.
use Rattle.std.proofs.Common.{◌+◌, List, ℕ, subst, arith}
use Rattle.stack_base.specs.Tree.{tree}
use Rattle.layout_model.proofs.Stacks.{element}
use Rattle.model_disks.proofs.WrittenLemmas.{apart_at_start}
use Rattle.outside_io.specs.Saying.{Says}
use Rattle.mirror_scrub.specs.Seen.{held, stretches_from, unlikes}
use Rattle.mirror_scrub.specs.Text.{differ_lines}
use Rattle.mirror_scrub.proofs.LineLemmas.{stretches_end, stretches_on}
use Rattle.mirror_scrub.proofs.lines.differ_lines.Goals as goal

pub stretches-init : goal.stretches-init
stretches-init g c = record {
  within = omega arith;
  apart = apart_at_start (unlikes (held c.args.disks.now) (tree c.args.stack.now c.args.mirror.0) c.args.leg);
  so_far = λ end pen said. said;
}

pub overflow_add-from : goal.overflow_add-from
overflow_add-from g c =
    let device = element c.args.stack.now.devices.items c.args.mirror.0 c.requires.mirror in
    omega (arith, c.in-Some.ensures.place.1, (c.requires.stack.each c.args.mirror.0 device.0 device.1).small)

pub stretches-preserved : goal.stretches-preserved
stretches-preserved g c =
    let stretches = stretches_from (held c.args.disks.now) (tree c.args.stack.now c.args.mirror.0) c.args.leg in
    let run = c.in-Some.run' in record {
      within = c.in-Some.ensures.place.1;
      apart = c.in-Some.ensures.apart;
      so_far = λ end pen said. c.stretches.invariant.so_far end pen
          (stretches_on c.name_of-name.result.now c.args.leg run (stretches c.stretches.from) (stretches (run.start + run.len)) c.in-Some.ensures.stretches
          c.differ_line.ensures said);
    }

pub returns : goal.returns
returns g c =
    let stretches = stretches_from (held c.args.disks.now) (tree c.args.stack.now c.args.mirror.0) c.args.leg in
    subst
    (λ (name : List ℕ). Says g.K.Sink c.args.out.now c.args.pen.now c.stretches.out c.stretches.pen (differ_lines name c.args.leg (stretches 0)))
    c.name_of-name.ensures
    (c.stretches.invariant.so_far _ _
    (stretches_end g.K.Sink c.stretches.out c.stretches.pen c.name_of-name.result.now c.args.leg
    (stretches c.stretches.from) c.in_default.ensures.stretches))
