-- What a turn of a task was, by the step's answer.
use Rattle.std.specs.Prelude.{◌≡◌, ◌≢◌, ◌⊎◌, ℕ, Bool, true, false, Option, None, Some}
use Rattle.stack_base.specs.declared.ids.PoolId.{PoolId}
use Rattle.stack_base.specs.declared.ids.PoolId.TheVariants.{FsVecs, Records}
use Rattle.bioset_pools.specs.Sets.{bios_of}
use Rattle.run_machine.specs.declared.event.Breach.{Breach}
use Rattle.run_machine.specs.Scene.{Setup}
use Rattle.run_machine.specs.Requests.{Request, Reply, TakeBio, TakeVec, TakeSlip, LookLeft, Rest, Missed, LeftOver, Nothing}
use Rattle.run_machine.specs.Tasks.{TaskState, request, look_of, lets, answered, breach_of}
use Rattle.run_machine.specs.Events.{id_of, what_of}
use Rattle.task_steps.specs.declared.objects.Objects.{Ghosts}
use Rattle.task_steps.specs.declared.step.Step.{Step}
use Rattle.task_steps.specs.declared.step.Step.TheVariants.{Stepped, Blocked, Waiting, Ended, Broken}
use Rattle.task_steps.specs.Service.{Service}
use Rattle.task_steps.specs.Routed.{Routing, routing_setup}
use Rattle.task_steps.specs.TaskSteps.{TaskTurns}
use Rattle.task_steps.specs.Turns.{silent_step}

-- the task has nothing to look at, or what it saw lets it ask
abbrev pub MayAsk : {S : Type 0} → Service S → TaskState → S → S → Type 0
MayAsk serves task old now =
    ((look_of task ≡ None) × (now ≡ old))
    ⊎ ((look : Request) × (seen : Reply) × (look_of task ≡ Some look) × serves old look seen now × (lets task seen ≡ true))

-- it saw what does not let it
abbrev pub MayNotAsk : {S : Type 0} → Service S → TaskState → S → S → Type 0
MayNotAsk serves task old new =
    (look : Request) × (seen : Reply) × (look_of task ≡ Some look) × serves old look seen new × (lets task seen ≡ false)

-- it asked for what it asks for next, and had this reply
abbrev pub HasReply : {S : Type 0} → Service S → Setup → TaskState → S → Reply → S → Type 0
HasReply serves setup task old reply new = (now : _) × MayAsk serves task old now × serves now (request setup task) reply new

-- there was nothing, and so many writes were unfinished
abbrev pub HasNothing : {S : Type 0} → Service S → Setup → TaskState → S → ℕ → S → Type 0
HasNothing serves setup task old left new = (middle : _) × HasReply serves setup task old Nothing middle × serves middle LookLeft (LeftOver left) new

-- its object refused what it asked for next, or had no ticket for it, and it has broken off
abbrev pub WasTurnedAway : {S : Type 0} → Service S → Setup → TaskState → S → Breach → TaskState → S → Type 0
WasTurnedAway serves setup task old breach next new =
    (reply : Reply) × HasReply serves setup task old reply new × (what_of (request setup task) reply ≡ None)
    × (silent_step setup (request setup task) reply ≡ Broken breach) × (next ≡ answered setup task reply)

-- the pool that a request is for an element of, where a miss there has the task wait: a try that misses is an event
abbrev pub pool_waited_at : Request → Option PoolId
pool_waited_at (TakeBio set true) = Some (bios_of set)
pool_waited_at TakeVec = Some FsVecs
pool_waited_at (TakeSlip dev) = Some (Records dev)
pool_waited_at request = None

-- An event: the task asked, the event tells of the reply, and the task goes on with it. Blocked: the pool missed. Waiting: it may not ask, or its
-- list or disk was empty, and a write is unfinished. Ended: it has no more to ask, and has not broken off, or its list or disk was empty, and no
-- write is unfinished. In these three it is as it was. Broken: it has broken off for this reason, before, or since its object refused it, or had no
-- ticket for it.
abbrev pub TurnWas : {S : Type 0} → Service S → Setup → TaskState → S → TaskState → S → Step → Type 0
TurnWas serves setup task old next new (Stepped event) =
    (reply : Reply) × HasReply serves setup task old reply new × (what_of (request setup task) reply ≡ Some event.what)
    × (event.task ≡ id_of task) × (next ≡ answered setup task reply)
TurnWas serves setup task old next new (Blocked pool) =
    (next ≡ task) × (pool_waited_at (request setup task) ≡ Some pool) × HasReply serves setup task old (Missed false) new
TurnWas serves setup task old next new Waiting =
    (next ≡ task) × (MayNotAsk serves task old new ⊎ ((left : ℕ) × (left ≢ 0) × HasNothing serves setup task old left new))
TurnWas serves setup task old next new Ended =
    (next ≡ task) × (((request setup task ≡ Rest) × (breach_of task ≡ None) × (new ≡ old)) ⊎ HasNothing serves setup task old 0 new)
TurnWas serves setup task old next new (Broken breach) =
    (breach_of next ≡ Some breach)
    × (((request setup task ≡ Rest) × (next ≡ task) × (new ≡ old)) ⊎ WasTurnedAway serves setup task old breach next new)

-- the same of a task by what its routes know of the devices
abbrev pub TaskTells : {S : Type 0} → Ghosts S → Routing → TaskState → S → TaskState → S → Step → Type 0
TaskTells words routing task old next new step = TurnWas words.serves (routing_setup routing) task old next new step

-- the answer to each turn over these objects tells what it was
abbrev pub AnswersTellTurns : {S : Type 0} → Ghosts S → Type 0
AnswersTellTurns words = (setup : Setup) (task next : TaskState) (old new : _) (step : Step)
    → TaskTurns words setup task old next new step → TurnWas words.serves setup task old next new step
