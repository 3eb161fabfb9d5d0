use Rattle.std.proofs.Common.{◌-◌, ◌≤◌}
use Rattle.std.specs.List.{flat_map, range_with_len}
use Rattle.outside_io.specs.Saying.{PenState, Says}
use Rattle.stack_base.specs.Tree.{tree, legs_of}
use Rattle.mirror_scrub.specs.Seen.{held}
use Rattle.mirror_scrub.specs.Text.{leg_lines, mirror_lines}
use Rattle.mirror_scrub.proofs.lines.mirror_lines.Given as goal

abbrev pub invariant-legs : goal.invariant-legs
invariant-legs g l = record {
  some : 1 ≤ l.leg;
  -- what says the lines from here on completes all of them
  so_far : (end : g.row.K.Denot) (pen : PenState)
      → Says g.K.Sink l.out l.pen end pen
      (flat_map (leg_lines l.stack (held l.disks) l.mirror.0) (range_with_len l.leg (legs_of (tree l.stack l.mirror.0) - l.leg)))
      → Says g.K.Sink l.fn.out l.fn.pen end pen (mirror_lines l.stack (held l.disks) l.mirror.0);
}
