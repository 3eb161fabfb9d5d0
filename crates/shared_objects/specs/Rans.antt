-- A task with its seats, as it is handed over: what is known of it.
use Rattle.std.specs.Prelude.{◌≡◌, ◌+◌, ◌-◌, ◌^◌, ℕ, Bool, true, false, List, [], length, min, Option, None, Some}
use Rattle.std.specs.Option.{is_some}
use Rattle.tick_clock.specs.declared.ticking.PassRank.TheVariants as pass_rank
use Rattle.tick_clock.specs.Tickets.{PassState}
use Rattle.run_machine.specs.Laws.{Object}
use Rattle.run_machine.specs.Tasks.{TaskState}
use Rattle.task_steps.specs.declared.step.Step.{Step}
use Rattle.task_steps.specs.declared.step.Step.TheVariants.{Stepped, Ended, Broken}
use Rattle.task_steps.specs.Homes.{IsTaskOf}
use Rattle.task_steps.specs.Routed.{routing_setup}
use Rattle.task_steps.specs.Stage.{Stage, Owes}
use Rattle.task_steps.specs.TaskViews.{ChosenBy, TaskOf}
use Rattle.task_steps.specs.Turns.{Turns}
use Rattle.object_things.specs.Histories.{Call}
use Rattle.shared_objects.specs.Calls.{calls_at}
use Rattle.shared_objects.specs.Desks.{DeskPicks, DeskState, DeskServes}
use Rattle.shared_objects.specs.Holding.{DeskHolds, desk_of, stage_at}
use Rattle.shared_objects.specs.Logs.{events_in, IsLogged, HasStopped, seen_by}
use Rattle.shared_objects.specs.Noting.{notes_of, AreNoted, HaveTickets, IsBlank, NotesStep}
use Rattle.shared_objects.specs.declared.locks.Locks.{Locks}
use Rattle.shared_objects.specs.declared.noted.Noted.{Noted}
use Rattle.shared_objects.specs.declared.seats.TaskSeats.{TaskSeats}

-- Calls led the task from the first state to this one. They have so many events, or 2^64 - 1 where there are more, and the task has stopped if a
-- step of it answered so. What it noted is all its events, or those before one for which there was no memory.
pub record IsRan (first task : TaskOf) (desk : DeskState) (events : ℕ) (stopped : Bool) (noted : Option Noted) : Type 0 where
  pub log : List Call
  pub logged : IsLogged (routing_setup first.routing) first.state log task.state desk
  pub routing : task.routing ≡ first.routing
  pub counted : events ≡ min (length (events_in log)) (2 ^ 64 - 1)
  pub stops : stopped ≡ true → HasStopped (routing_setup first.routing) log task.state
  pub notes : HaveTickets log → AreNoted (notes_of (routing_setup first.routing) first.state log) noted

-- the task made a step with its seats, and what it asked was served at these locks
abbrev pub TurnsWith : Locks → TaskOf → TaskSeats → TaskOf → TaskSeats → Step → Type 0
TurnsWith locks task seats next after step =
    Turns DeskServes (Owes (stage_at locks)) (routing_setup task.routing) task.state (desk_of seats) next.state (desk_of after) step

-- what became of the chooser in such a step
abbrev pub ChosenWith : {C : Type 0} → (C → ℕ → ℕ → C → Type 0) → TaskState → TaskSeats → TaskSeats → C → Step → C → Type 0
ChosenWith chooses task seats after old step new = ChosenBy task chooses (DeskPicks (desk_of seats)) (desk_of after) old step new

-- how many events there are behind a step, and whether the task has stopped
abbrev pub events_after : Step → ℕ → ℕ
events_after (Stepped event) events = min (events + 1) (2 ^ 64 - 1)
events_after step events = events

abbrev pub stopped_after : Step → Bool → Bool
stopped_after Ended stopped = true
stopped_after (Broken breach) stopped = true
stopped_after step stopped = stopped

-- each step of the task at its desk keeps it
abbrev pub StepsKeepRan : Type 0
StepsKeepRan = (stage : Stage) (first task next : TaskOf) (old new : DeskState) (step : Step) (events : ℕ) (stopped : Bool) (noted after : Option Noted)
    → IsRan first task old events stopped noted → Turns DeskServes (Owes stage) (routing_setup task.routing) task.state old next.state new step
    → next.routing ≡ task.routing → NotesStep step (seen_by new.pass) noted after
    → IsRan first next new (events_after step events) (stopped_after step stopped) after

-- a pass that was just split off, with which nothing was seen or drawn
abbrev pub IsUnused : Option PassState → Type 0
IsUnused None = ⊥
IsUnused (Some pass) = (pass.seen ≡ 0) × (pass.drawn ≡ [])

-- a desk at which nothing was called yet
pub record IsNewDesk (desk : DeskState) : Type 0 where
  pub calls : (name : Object) → calls_at desk.calls name ≡ []
  pub pass : IsUnused desk.pass

-- a task at a new desk has no events, and has not stopped
abbrev pub NewDesksAreRan : Type 0
NewDesksAreRan = (task : TaskOf) (desk : DeskState) (noted : Option Noted) → IsNewDesk desk → IsBlank noted → IsRan task task desk 0 false noted

-- A task with its seats of locks, as it was opened, how many events it has had, whether it has stopped, and what it noted, where that is wanted.
pub record RanState : Type 0 where
  pub task : TaskOf
  pub seats : TaskSeats
  pub first : TaskOf
  pub home : Locks
  pub events : ℕ
  pub stopped : Bool
  pub noted : Option Noted

-- the same of its parts
abbrev pub ran_from : TaskOf → TaskSeats → TaskOf → Locks → ℕ → Bool → Option Noted → RanState
ran_from task seats first home events stopped noted = record {
  task = task;
  seats = seats;
  first = first;
  home = home;
  events = events;
  stopped = stopped;
  noted = noted;
}

-- it has made no step yet
abbrev pub unstepped : TaskOf → TaskSeats → TaskOf → Locks → Option Noted → RanState
unstepped task seats first home noted = ran_from task seats first home 0 false noted

-- what is known of it beside the task and its seats, which may stand at a desk meanwhile
pub record ProgressState : Type 0 where
  pub first : TaskOf
  pub home : Locks
  pub events : ℕ
  pub stopped : Bool
  pub noted : Option Noted

abbrev pub progress_of : RanState → ProgressState
progress_of ran = record { first = ran.first; home = ran.home; events = ran.events; stopped = ran.stopped; noted = ran.noted }

-- the task with its seats, put together again
abbrev pub ran_of : TaskOf → TaskSeats → ProgressState → RanState
ran_of task seats progress =
    ran_from task seats progress.first progress.home progress.events progress.stopped progress.noted

-- it was told of a step, behind which the pass had seen this
abbrev pub StepsProgress : Step → ℕ → ProgressState → ProgressState → Type 0
StepsProgress step seen old new =
    (new ≡ record old { events = events_after step old.events; stopped = stopped_after step old.stopped; noted = new.noted })
    × NotesStep step seen old.noted new.noted

-- what never changes of it: as it was opened, the locks that its seats are of, and its number
pub record RanKey : Type 0 where
  pub first : TaskOf
  pub home : Locks
  pub number : ℕ

abbrev pub ran_key : RanState → RanKey
ran_key ran = record { first = ran.first; home = ran.home; number = ran.seats.number }

-- no run has more tasks: eight writers, a rescuer or a completer for each of 32 devices, and the keeper
abbrev pub most_tasks : ℕ
most_tasks = 41

-- a pass that was split off, into which none was joined
abbrev pub IsOtherPass : Option PassState → Type 0
IsOtherPass None = ⊥
IsOtherPass (Some pass) = (pass.rank ≡ pass_rank.Other) × (pass.joined ≡ 0)

-- What holds of it wherever it is: its seats are of those locks, it is a task of the objects behind them, and it is where its calls have led it.
pub record RanHolds (state : RanState) : Type 0 where
  pub desk : DeskHolds state.home state.seats
  pub routing : state.first.routing ≡ (stage_at state.home).routing
  pub task : IsTaskOf (stage_at state.home) state.task.state
  pub pass : IsOtherPass state.seats.pass
  -- it notes its events exactly where its locks want that
  pub listed : is_some state.noted ≡ state.home.trace
  pub ran : IsRan state.first state.task (desk_of state.seats) state.events state.stopped state.noted

-- it has made no call yet, and noted nothing
pub record IsNewRan (ran : RanState) : Type 0 where
  pub task : ran.task ≡ ran.first
  pub desk : IsNewDesk (desk_of ran.seats)
  pub events : ran.events ≡ 0
  pub stopped : ran.stopped ≡ false
  pub blank : IsBlank ran.noted

-- What holds of a task with its seats holds behind a step that it made at a desk of their locks, and it is the same task.
abbrev pub StepsKeepTasks : Type 0
StepsKeepTasks = (ran : RanState) (task : TaskOf) (seats : TaskSeats) (step : Step) (progress : ProgressState) → RanHolds ran
    → TurnsWith ran.home ran.task ran.seats task seats step → DeskHolds ran.home seats → task.routing ≡ ran.task.routing
    → StepsProgress step (seen_by seats.pass) (progress_of ran) progress
    → RanHolds (ran_of task seats progress) × (ran_key (ran_of task seats progress) ≡ ran_key ran)
