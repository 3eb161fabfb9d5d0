-- Which task can go on without ordinary memory.
use Rattle.std.specs.Prelude.{◌≡◌, ◌⊎◌, ◌+◌, ◌-◌, ◌^◌, ◌<◌, ℕ, true, false, IsTrue, length, Some}
use Rattle.stack_base.specs.declared.ids.PoolId.TheVariants.{FsVecs, Records}
use Rattle.stack_base.specs.PoolId.{pool_number}
use Rattle.mempool_core.specs.Move.{takes_spare, CanMove}
use Rattle.bioset_pools.specs.Sets.{bios_of}
use Rattle.bio_books.specs.Books.{Node, node_at}
use Rattle.bio_books.specs.Links.{IsVacant}
use Rattle.bio_records.specs.declared.tasks.TaskLists.{TaskLists}
use Rattle.run_machine.specs.declared.event.Event.{Event}
use Rattle.run_machine.specs.declared.event.TaskId.{TaskId}
use Rattle.run_machine.specs.declared.event.What.{What}
use Rattle.run_machine.specs.Events.{id_of, is_free, what_of}
use Rattle.run_machine.specs.Submissions.{Doing, submission_request}
use Rattle.run_machine.specs.Objects.{Objects, Serves}
use Rattle.run_machine.specs.Requests.{Request, Reply, Opening, Write, Chain, Master, Leg, TakeBio, TakeVec, TakeSlip, GiveBio, GiveVec, GiveSlip, Punt, Pop, Push, Complete, Link, Drop, Done, Resize, NextRound, LookRound, LookLeft, Rest}
use Rattle.task_steps.specs.Routed.{Routing, routing_setup}
use Rattle.run_machine.specs.Runs.{State, Steps, IsLet}
use Rattle.run_machine.specs.Scene.{Setup}
use Rattle.run_machine.specs.Tasks.{TaskState, look_of, request}
use Rattle.plain_core.specs.declared.steps.need.Need.{Need}
use Rattle.plain_core.specs.declared.steps.need.Need.TheVariants as need
use Rattle.plain_core.specs.declared.steps.task.PlainSubmission.{PlainSubmission}
use Rattle.plain_core.specs.steps.Views.{doing_of_plain}
use Rattle.plain_core.specs.Cores.{CoreState, task_at, scene_of_core, state_of_core}
use Rattle.plain_core.specs.objects.Ledgers.{ledger_of}
use Rattle.plain_core.specs.objects.Lists.{lists_of}
use Rattle.plain_core.specs.objects.Questions.{IsShort}
use Rattle.plain_core.specs.objects.Plain.{CoreObjects, core_pool_at, core_rescue_at, core_disk_at, core_book_at, objects_of_core}

-- the request can be answered so that an event tells it which needs no ordinary memory
pub record CanFree (old : CoreObjects) (request : Request) : Type 0 where
  pub what : What
  pub reply : Reply
  pub new : Objects
  pub told : what_of request reply ≡ Some what
  pub serves : Serves ledger_of (objects_of_core old) request reply new
  pub free : IsTrue (is_free what)

-- what each request needs for that
abbrev pub link_need : ℕ → Opening → Need
link_need writer (Write write vector) = need.Place writer
link_need writer (Chain parent) = need.Chain writer parent
link_need writer (Master parent part slip legs) = need.Child writer parent
link_need writer (Leg master) = need.Child writer master

abbrev pub need_of : Request → Need
need_of (TakeBio set waits) = need.Spare (bios_of set) waits
need_of TakeVec = need.Spare FsVecs true
need_of (TakeSlip dev) = need.Spare (Records dev) true
need_of (GiveBio bio) = need.Out bio.share.no
need_of (GiveVec vector) = need.Out vector.share.no
need_of (GiveSlip slip) = need.Out slip.share.no
need_of (Punt dev moved) = need.Nothing
need_of (Pop dev) = need.Rescued dev
need_of (Push bio) = need.Nothing
need_of (Complete disk) = need.Pending disk
need_of (Link writer opening) = link_need writer opening
need_of (Drop writer node status part) = need.End writer node
need_of (Done write status) = need.Nothing
need_of (Resize pool min) = need.Home pool
need_of (NextRound round) = need.Round
need_of LookRound = need.Never
need_of LookLeft = need.Never
need_of Rest = need.Never

-- when it is met
abbrev pub NeedIsMet : CoreObjects → Need → Type 0
NeedIsMet old need.Nothing = Unit {0}
NeedIsMet old need.Never = ⊥
-- a take that does not wait may miss
NeedIsMet old (need.Spare pool waits) =
    CanMove (core_pool_at old (pool_number pool)) takes_spare ⊎ ((waits ≡ false) × IsShort (core_pool_at old (pool_number pool)))
NeedIsMet old (need.Out number) = 0 < (core_pool_at old number).facts.out
NeedIsMet old (need.Home pool) = (core_pool_at old (pool_number pool)).facts.out ≡ 0
NeedIsMet old (need.Rescued dev) = 0 < length (core_rescue_at old dev.0)
NeedIsMet old (need.Pending disk) = 0 < length (core_disk_at old disk.0).pending
NeedIsMet old (need.Place writer) = (place : ℕ) × IsVacant (core_book_at old writer) place
NeedIsMet old (need.Chain writer parent) =
    (place : ℕ) × (node : Node) × IsVacant (core_book_at old writer) place × (node_at (core_book_at old writer) parent ≡ Some node) × (node.count < 2 ^ 64 - 1)
NeedIsMet old (need.Child writer parent) =
    (place : ℕ) × (node : Node) × IsVacant (core_book_at old writer) place × (node_at (core_book_at old writer) parent ≡ Some node)
NeedIsMet old (need.End writer place) = (node : Node) × (node_at (core_book_at old writer) place ≡ Some node) × (0 < node.count)
NeedIsMet old need.Round = old.tally.round + 1 < length old.tally.left

-- the need of what a submission asks for, whatever is known of the stack
abbrev pub IsNeedOfDoing : Need → Doing → Type 0
IsNeedOfDoing need doing = (s : Setup) (lists : TaskLists) → need ≡ need_of (submission_request s doing lists)

-- the same of a plain submission, with its lists
abbrev pub IsNeedOfSubmission : Need → PlainSubmission → Type 0
IsNeedOfSubmission need l = (s : Setup) → need ≡ need_of (submission_request s (doing_of_plain l.doing) (lists_of l.lists))

-- the need of what a task asks for
abbrev pub IsNeedOfTask : Need → TaskState → Type 0
IsNeedOfTask need task = (s : Setup) → need ≡ need_of (request s task)

-- what a task looks at lets it ask
abbrev pub TaskIsLet : CoreObjects → TaskState → Type 0
TaskIsLet old task = IsLet ledger_of (objects_of_core old) task (look_of task)

-- a task can go on without ordinary memory
abbrev pub TaskIsFree : Routing → CoreObjects → TaskState → Type 0
TaskIsFree r old task = TaskIsLet old task × CanFree old (request (routing_setup r) task)

-- the task at this place of a core has a step that needs no ordinary memory
pub record IsFreeAt (c : CoreState) (place : ℕ) : Type 0 where
  pub event : Event
  pub new : State
  pub steps : Steps (scene_of_core c) (state_of_core c) place event new
  pub free : IsTrue (is_free event.what)

-- the first task of all that has one is of this name
pub record IsFirstFree (c : CoreState) (name : TaskId) : Type 0 where
  pub place : ℕ
  pub named : name ≡ id_of (task_at c.tasks place)
  pub is_free : IsFreeAt c place
  pub first : (earlier : ℕ) → earlier < place → IsFreeAt c earlier → ⊥
