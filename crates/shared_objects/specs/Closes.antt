-- What is left of shared objects once every task has stopped and every seat was joined: the history of each object, and the calls of each task.
use Rattle.std.specs.Prelude.{◌≡◌, ◌⊎◌, ◌+◌, ◌<◌, ◌≤◌, ℕ, true, false, List, [], ◌∷◌, All, Contains, length, slice_get, Option, Some, None}
use Rattle.std.specs.List.{flat_map, list_any}
use Rattle.seat_lock.specs.History.{Leads, calls_by}
use Rattle.tick_clock.specs.Tickets.{PassState, HasAll, ShowsTickets}
use Rattle.run_machine.specs.Laws.{Object, object_of}
use Rattle.run_machine.specs.Scene.{Setup}
use Rattle.run_machine.specs.Tasks.{TaskState}
use Rattle.task_core.specs.declared.plain.Plain.{Plain}
use Rattle.object_things.specs.Histories.{Call}
use Rattle.object_things.specs.Stamps.{ThingState}
use Rattle.shared_objects.specs.Calls.{calls_to, is_same_object}
use Rattle.shared_objects.specs.Desks.{DeskState}
use Rattle.shared_objects.specs.Names.{Apart}
use Rattle.shared_objects.specs.Kinds.{ThingAt, answers_at, opened_at, unasked}
use Rattle.shared_objects.specs.Passes.{drawn_by}
use Rattle.shared_objects.specs.Logs.{HasStopped, IsLogged}

-- a task that was put back: as it was opened, the calls that it made, in their order, and what it and its desk are now
pub record Returned : Type 0 where
  pub first : TaskState
  pub log : List Call
  pub task : TaskState
  pub desk : DeskState

-- Of these objects, as they were opened, with the histories of the named ones; of what they are now; of the tasks, in their order; and of the
-- first pass of the clock, into which every other was joined.
pub record ClosesAs (setup : Setup) (opened : Plain) (names : List Object) (history : Object → List Call) (left : (name : Object) → ThingState (ThingAt name))
    (tasks : List Returned) (pass : PassState) : Type 0 where
  pub apart : Apart is_same_object names
  pub others : (name : Object) → list_any (is_same_object name) names ≡ false → history name ≡ []
  -- each object is what its whole history leaves of it, and was asked what is for it
  pub things : (name : Object) → Leads (answers_at name) (unasked (opened_at opened name)) (history name) (left name)
  pub named : (name : Object) → All (λ (call : Call). object_of call.asked ≡ name) (history name)
  -- The calls of each history are those of the tasks: none is of the first seat, whose number is 0, and those of each task are all that it
  -- made there.
  pub numbers : (name : Object) → All (λ (call : Call). (0 < call.by) × (call.by ≤ length tasks)) (history name)
  pub calls : (name : Object) (place : ℕ) (task : Returned) → slice_get tasks place ≡ Some task → calls_by ((place + 1) ∷ []) (history name) ≡ calls_to name task.log
  pub logged : All (λ (task : Returned). IsLogged setup task.first task.log task.task task.desk × HasStopped setup task.log task.task) tasks
  -- all tickets of the clock are theirs
  pub all : HasAll pass × ShowsTickets pass
  pub drawn : pass.drawn ≡ flat_map (λ (task : Returned). drawn_by task.desk.pass) tasks
