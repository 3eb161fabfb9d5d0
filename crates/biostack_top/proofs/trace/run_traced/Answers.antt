-- The events of the run are handed to the trace, which ends.
use Rattle.std.proofs.Common.{rules}
use Rattle.biostack_top.proofs.RunningLemmas.{has_run}
use Rattle.biostack_top.proofs.TraceLemmas.{writes_lines}
use Rattle.biostack_top.proofs.trace.run_traced.Goals as goal

pub returns : goal.returns
returns g c =
    let ran = c.run_serial-ended.ensures.ran in (
      ran.events,
      has_run _ c.args.opened c.args.number _ _ _ _ c.run_serial-ended.result c.requires.opened c.new-schedule.ensures ran,
      writes_lines g.K.Sink _ ran.events _ c.finish-told.new.self _ c.finish-told.result c.new.ensures ran.handed
          c.finish-told.ensures.same_reference c.finish-told.ensures.says c.finish-told.ensures.handed c.finish-told.ensures.failed (search rules),
    )
