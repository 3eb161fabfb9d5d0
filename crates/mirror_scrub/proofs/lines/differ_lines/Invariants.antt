use Rattle.std.proofs.Common.{◌-◌, ◌≤◌}
use Rattle.outside_io.specs.Saying.{PenState, Says}
use Rattle.stack_base.specs.Tree.{size, tree}
use Rattle.model_disks.specs.Runs.{IsApart}
use Rattle.mirror_scrub.specs.Seen.{held, stretches_from, unlikes}
use Rattle.mirror_scrub.specs.Text.{differ_lines}
use Rattle.mirror_scrub.proofs.lines.differ_lines.Given as goal

abbrev pub invariant-stretches : goal.invariant-stretches
invariant-stretches g l = record {
  within : l.from ≤ size (tree l.stack l.mirror.0);
  apart : IsApart (unlikes (held l.disks) (tree l.stack l.mirror.0) l.leg) l.from;
  -- what says the lines from here on completes all of them
  so_far : (end : g.row.K.Denot) (pen : PenState)
      → Says g.K.Sink l.out l.pen end pen
      (differ_lines l.name l.leg (stretches_from (held l.disks) (tree l.stack l.mirror.0) l.leg l.from))
      → Says g.K.Sink l.fn.out l.fn.pen end pen
      (differ_lines l.name l.leg (stretches_from (held l.disks) (tree l.stack l.mirror.0) l.leg 0));
}

abbrev pub decreases-stretches : goal.decreases-stretches
decreases-stretches g l = size (tree l.stack l.mirror.0) - l.from
