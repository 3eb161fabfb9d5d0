-- That what follows a stream of words is a run.
use Rattle.std.specs.Prelude.{List}
use Rattle.rand_pcg.specs.Lcg.{Lcg}
use Rattle.run_machine.specs.declared.event.Event.{Event}
use Rattle.run_machine.specs.Runs.{State, IsRun}
use Rattle.run_machine.specs.Scene.{Scene}
use Rattle.serial_run.specs.Schedule.{FollowsSchedule}

-- whatever the stream, and from whatever state
abbrev pub TurnsAreARun : Type 0
TurnsAreARun = (scene : Scene) (old : State) (stream : Lcg) (events : List Event) (new : State) (after : Lcg)
    → FollowsSchedule scene old stream events new after → IsRun scene old events new
