-- The events of the run go nowhere.
use Rattle.biostack_top.proofs.RunningLemmas.{has_run}
use Rattle.biostack_top.proofs.run.run_quiet.Goals as goal

pub returns : goal.returns
returns c =
    let ran = c.run_serial.ensures.ran in
    (ran.events, has_run _ c.args.opened c.args.number _ _ _ _ c.run_serial.result c.requires.opened c.new-schedule.ensures ran)
