-- What says the lines of the other runs completes all of them.
use Rattle.std.proofs.Common.{◌+◌, map, arith}
use Rattle.stack_base.specs.Words.{is_written}
use Rattle.model_disks.specs.Runs.{runs_from}
use Rattle.model_disks.proofs.WrittenLemmas.{apart_at_start}
use Rattle.report_text.proofs.LineLemmas.{runs_on, runs_end}
use Rattle.report_text.proofs.images.run_lines.Goals as goal

pub runs-init : goal.runs-init
runs-init g c = record { within = omega arith; apart = apart_at_start (map is_written c.args.disk.now.image); so_far = λ end pen said. said }

pub runs-preserved : goal.runs-preserved
runs-preserved g c =
    let flags = map is_written c.args.disk.now.image in
    let run = c.in-Some.run' in record {
      within = c.in-Some.ensures.place.0.1;
      apart = c.in-Some.ensures.apart;
      so_far = λ end pen said. c.runs.invariant.so_far end pen
          (runs_on c.args.name.now run (runs_from flags c.runs.from) (runs_from flags (run.start + run.len)) c.in-Some.ensures.runs c.run_line.ensures said);
    }

pub returns : goal.returns
returns g c =
    c.runs.invariant.so_far _ _
    (runs_end g.K.Sink c.runs.out c.runs.pen c.args.name.now (runs_from (map is_written c.args.disk.now.image) c.runs.from) c.in_default.ensures.runs)
