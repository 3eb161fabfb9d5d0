-- What a step of a task comes to for workers.
use Rattle.std.specs.Prelude.{◌≡◌}
use Rattle.task_steps.specs.declared.step.Step.{Step}
use Rattle.task_steps.specs.declared.step.Step.TheVariants.{Stepped, Blocked, Waiting, Ended, Broken}
use Rattle.shared_objects.specs.Rans.{RanState, TurnsWith, events_after}
use Rattle.bio_workers.specs.declared.work.WorkOutcome.{WorkOutcome}
use Rattle.bio_workers.specs.declared.work.WorkOutcome.TheVariants.{Happened, Nothing, Over}

-- A task that waits may go on once others did. One that has ended or broke off does not.
abbrev pub came_of : Step → WorkOutcome
came_of (Stepped event) = Happened
came_of (Blocked pool) = Nothing
came_of Waiting = Nothing
came_of Ended = Over
came_of (Broken breach) = Over

-- the task made a step with its seats that came to this, and has one event more where that was one
pub record HasStepped (came : WorkOutcome) (old new : RanState) : Type 0 where
  pub step : Step
  pub turns : TurnsWith old.home old.task old.seats new.task new.seats step
  pub events : new.events ≡ events_after step old.events
  pub comes : came ≡ came_of step
