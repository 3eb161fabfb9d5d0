-- What a step of a task does, whatever objects it asks: the task's half of an event, with the reply that they gave.
use Rattle.std.specs.Prelude.{◌≡◌, ◌≢◌, ◌⊎◌, ◌==◌, if◌then◌else◌, ℕ, Bool, true, false, Option, None, Some}
use Rattle.stack_base.specs.declared.ids.PoolId.TheVariants.{FsVecs, Records}
use Rattle.bioset_pools.specs.Sets.{bios_of}
use Rattle.bio_books.specs.Drops as end
use Rattle.bio_books.specs.Links.{NoRoom, Stray}
use Rattle.run_machine.specs.declared.event.Breach.{Breach}
use Rattle.run_machine.specs.declared.event.Breach.TheVariants as breach
use Rattle.run_machine.specs.declared.event.TaskId.{TaskId}
use Rattle.run_machine.specs.declared.event.What.{What}
use Rattle.run_machine.specs.declared.event.What.TheVariants as what
use Rattle.task_steps.specs.declared.step.Step.{Step}
use Rattle.task_steps.specs.declared.step.Step.TheVariants.{Stepped, Blocked, Waiting, Ended, Broken}
use Rattle.stack_base.specs.declared.ids.DevId.{DevId}
use Rattle.run_machine.specs.Scene.{Setup}
use Rattle.task_steps.specs.Service.{Service, Owing}
use Rattle.task_steps.specs.Choosing.{IsAsked}
use Rattle.run_machine.specs.Requests.{Request, Reply, Opening, Write, Chain, Master, Leg, TakeBio, TakeVec, TakeSlip, Link, Drop, Resize, LookLeft, Rest, Missed, LinkedTo, DroppedTo, OutIs, LeftOver, Nothing, NoTicket}
use Rattle.run_machine.specs.Tasks.{TaskState, request, look_of, lets, answered, breach_of}
use Rattle.run_machine.specs.Events.{id_of, what_of}

-- the node that an opening names, if it names one
abbrev pub named_node : Opening → ℕ
named_node (Write write vector) = 0
named_node (Chain parent) = parent
named_node (Master parent part slip legs) = parent
named_node (Leg master) = master

-- what a step comes to that is no event: it waits at the pool that missed, or its object has refused, or had no ticket
abbrev pub silent_step : Setup → Request → Reply → Step
silent_step setup request NoTicket = Broken breach.Spent
silent_step setup (TakeBio set waits) (Missed used) = Blocked (bios_of set)
silent_step setup TakeVec (Missed used) = Blocked FsVecs
silent_step setup (TakeSlip dev) (Missed used) = Blocked (Records dev)
silent_step setup (Link writer opening) (LinkedTo (NoRoom back)) = Broken (breach.NoRoom writer (setup.places writer))
silent_step setup (Link writer opening) (LinkedTo (Stray back)) = Broken (breach.Stray writer (named_node opening))
silent_step setup (Drop writer node status part) (DroppedTo (end.Stray back)) = Broken (breach.Stray writer node)
silent_step setup (Resize pool min) (OutIs out) = Broken (breach.Out pool out)
silent_step setup request reply = Waiting

abbrev pub step_by : TaskId → Option What → Step → Step
step_by task (Some what) silent = Stepped (record { task = task; what = what })
step_by task None silent = silent

abbrev pub step_of : Setup → TaskId → Request → Reply → Step
step_of setup task request reply = step_by task (what_of request reply) (silent_step setup request reply)

-- a task that asks for nothing has ended, or has broken off
abbrev pub resting_step : Option Breach → Step
resting_step None = Ended
resting_step (Some breach) = Broken breach

-- where a list or a disk was empty, the task has ended if no write is unfinished
abbrev pub idle_step : ℕ → Step
idle_step left = if left == 0 then Ended else Waiting

-- A task has asked one object for what it asks for next, and goes on with the reply, for which the objects owe what they do. The step tells this;
-- but where there was nothing, the task has looked at the number of unfinished writes too.
pub record Asks {S : Type 0} (serves : Service S) (owes : Owing) (setup : Setup)
    (task : TaskState) (old : S) (next : TaskState) (new : S) (step : Step) : Type 0 where
  pub reply : Reply
  pub middle : S
  pub any : request setup task ≢ Rest
  pub replied : serves old (request setup task) reply middle
  pub owed : owes (request setup task) reply
  pub goes_on : next ≡ answered setup task reply
  pub follows : ((reply ≢ Nothing) × (new ≡ middle) × (step ≡ step_of setup (id_of task) (request setup task) reply))
      ⊎ ((reply ≡ Nothing) × ((left : ℕ) × serves middle LookLeft (LeftOver left) new × (step ≡ idle_step left)))

-- A step of a task: it looks where it has to, asks one object for what it asks for next, and goes on with the reply. It goes by what was asked, since
-- that is what a history of calls has to match, and it says what is owed behind each call; what each answer of a step tells stands in ByAnswer.antt,
-- follows from this, and says less: it could not stand here in its place.
pub data Turns {S : Type 0} (serves : Service S) (owes : Owing) (setup : Setup)
    (task : TaskState) (old : S) (next : TaskState) (new : S) (step : Step) : Type 0 where
  -- it asks for nothing: it has ended, or has broken off
  Rested : request setup task ≡ Rest → next ≡ task → new ≡ old → step ≡ resting_step (breach_of task)
      → Turns serves owes setup task old next new step
  -- what it saw does not let it ask, and it waits
  Waited : (look : Request) (seen : Reply) → look_of task ≡ Some look → serves old look seen new → lets task seen ≡ false
      → next ≡ task → step ≡ Waiting → Turns serves owes setup task old next new step
  -- it has nothing to look at, and has asked
  Asked : look_of task ≡ None → Asks serves owes setup task old next new step → Turns serves owes setup task old next new step
  -- what it saw lets it ask, and it has asked
  Saw : (look : Request) (seen : Reply) (between : S) → look_of task ≡ Some look → serves old look seen between → lets task seen ≡ true
      → Asks serves owes setup task between next new step → Turns serves owes setup task old next new step

-- whether a step tells that a bio was completed
abbrev pub completes : Step → Bool
completes (Stepped event) = is_completion event.what
  where
    is_completion : What → Bool
    is_completion (what.Complete disk index status) = true
    is_completion what = false
completes step = false

-- The chooser was asked where a bio was completed. It stays where any other event came, and where the task waits at a pool. Behind all else it
-- stays too, but for the completer of a disk in which, once it had chosen, no bio was left or no ticket was to be had: the objects may have been
-- looked at again behind that.
abbrev pub Chosen : {S C : Type 0} → (C → ℕ → ℕ → C → Type 0) → (S → DevId → ℕ → ℕ → Option ℕ → Type 0) → S → DevId → C → Step → C → Type 0
Chosen chooses picks now own old (Stepped event) new = chosen_by event.what
  where
    chosen_by : What → Type 0
    chosen_by (what.Complete disk index status) = IsAsked chooses (picks now disk) old (Some index) new
    chosen_by what = new ≡ old
Chosen chooses picks now own old (Blocked pool) new = new ≡ old
Chosen {S} chooses picks now own old step new = (new ≡ old) ⊎ ((between : S) × IsAsked chooses (picks between own) old None new)
