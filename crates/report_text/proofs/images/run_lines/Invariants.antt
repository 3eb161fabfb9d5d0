use Rattle.std.proofs.Common.{◌-◌, ◌≤◌, length, map}
use Rattle.stack_base.specs.Words.{is_written}
use Rattle.outside_io.specs.Saying.{PenState, Says}
use Rattle.model_disks.specs.Runs.{IsApart, runs_from}
use Rattle.report_text.specs.Report.{run_lines}
use Rattle.report_text.proofs.images.run_lines.Given as goal

abbrev pub invariant-runs : goal.invariant-runs
invariant-runs g l = record {
  within : l.from ≤ length l.disk.image;
  apart : IsApart (map is_written l.disk.image) l.from;
  -- what says the lines from here on completes all of them
  so_far : (end : g.row.K.Denot) (pen : PenState)
      → Says g.K.Sink l.out l.pen end pen (run_lines l.name (runs_from (map is_written l.disk.image) l.from))
      → Says g.K.Sink l.fn.out l.fn.pen end pen (run_lines l.name (runs_from (map is_written l.disk.image) 0));
}

abbrev pub decreases-runs : goal.decreases-runs
decreases-runs g l = length l.disk.image - l.from
