-- What holds of the definitions themselves.
use Rattle.std.specs.Prelude.{◌≡◌, ◌≢◌, ◌++◌, ℕ, List, Option, None, Some}
use Rattle.elem_ledger.specs.Ledger.{LedgerId}
use Rattle.stack_base.specs.PoolId.{pool_number, IsOfStack}
use Rattle.stack_base.specs.declared.ids.PoolId.{PoolId}
use Rattle.stack_base.specs.declared.ids.PoolId.TheVariants.{FsVecs, Records}
use Rattle.bioset_pools.specs.Sets.{bios_of}
use Rattle.run_machine.specs.declared.event.Event.{Event}
use Rattle.run_machine.specs.Maps.{upd}
use Rattle.run_machine.specs.Scene.{Scene}
use Rattle.run_machine.specs.Requests.{Request, Reply, TakeBio, TakeVec, TakeSlip, GiveBio, GiveVec, GiveSlip, Punt, Pop, Push, Complete, Link, Drop, Done, Resize, NextRound, LookRound, LookLeft, Rest}
use Rattle.run_machine.specs.Tasks.{TaskState, request, look_of}
use Rattle.run_machine.specs.Objects.{Objects, Serves}
use Rattle.run_machine.specs.Events.{pool_of}
use Rattle.run_machine.specs.Runs.{State, IsLet, Steps, IsRun}

-- the object that a request is for: a pool, the list of a rescuer, a disk, a book, the tally, or none
pub data Object : Type 0 where
  OfPool : (number : ℕ) → Object
  OfRescuer : (dev : ℕ) → Object
  OfDisk : (dev : ℕ) → Object
  OfBook : (writer : ℕ) → Object
  OfTally : Object
  OfNone : Object

abbrev pub object_of : Request → Object
object_of (TakeBio set waits) = OfPool (pool_number (bios_of set))
object_of TakeVec = OfPool (pool_number FsVecs)
object_of (TakeSlip dev) = OfPool (pool_number (Records dev))
object_of (GiveBio bio) = OfPool bio.share.no
object_of (GiveVec vector) = OfPool vector.share.no
object_of (GiveSlip slip) = OfPool slip.share.no
object_of (Punt dev moved) = OfRescuer dev.0
object_of (Pop dev) = OfRescuer dev.0
object_of (Push bio) = OfDisk bio.bio.dev.0
object_of (Complete disk) = OfDisk disk.0
object_of (Link writer opening) = OfBook writer
object_of (Drop writer node status part) = OfBook writer
object_of (Done write status) = OfTally
object_of (Resize pool min) = OfPool (pool_number pool)
object_of (NextRound round) = OfTally
object_of LookRound = OfTally
object_of LookLeft = OfTally
object_of Rest = OfNone

-- the objects with this one of them as it is in others
abbrev pub with_object : Objects → Objects → Object → Objects
with_object old new (OfPool number) = record old { pool = upd old.pool number (new.pool number) }
with_object old new (OfRescuer dev) = record old { rescue = upd old.rescue dev (new.rescue dev) }
with_object old new (OfDisk dev) = record old { disk = upd old.disk dev (new.disk dev) }
with_object old new (OfBook writer) = record old { book = upd old.book writer (new.book writer) }
with_object old new OfTally = record old { tally = new.tally }
with_object old new OfNone = old

-- a request changes no object but the one that it is for
abbrev pub OneObjectChanges : Type 0
OneObjectChanges = (ledger : ℕ → LedgerId) (old new : Objects) (request : Request) (reply : Reply)
    → Serves ledger old request reply new → new ≡ with_object old new (object_of request)

-- this object is the same in both
abbrev pub AgreeAt : Object → Objects → Objects → Type 0
AgreeAt (OfPool number) first second = first.pool number ≡ second.pool number
AgreeAt (OfRescuer dev) first second = first.rescue dev ≡ second.rescue dev
AgreeAt (OfDisk dev) first second = first.disk dev ≡ second.disk dev
AgreeAt (OfBook writer) first second = first.book writer ≡ second.book writer
AgreeAt OfTally first second = first.tally ≡ second.tally
AgreeAt OfNone first second = Unit {0}

-- and so is the one that is looked at, if one is
abbrev pub AgreeAtLook : Option Request → Objects → Objects → Type 0
AgreeAtLook None first second = Unit {0}
AgreeAtLook (Some look) first second = AgreeAt (object_of look) first second

-- another state with the task at this place, and with this object, as they are in a state
abbrev pub with_step : State → State → ℕ → Object → State
with_step other new place object = record {
  objects = with_object other.objects new.objects object;
  task = upd other.task place (new.task place);
}

-- A request depends on the object that it is for and on nothing else: where that object is the same, it gets the same reply, and the object
-- becomes the same. So an event depends on its task, on the object that its task asks, and on the one that it looks at.
pub record OneObjectDecides : Type 0 where
  pub serves : (ledger : ℕ → LedgerId) (old new other : Objects) (request : Request) (reply : Reply) → AgreeAt (object_of request) old other
      → Serves ledger old request reply new → Serves ledger other request reply (with_object other new (object_of request))
  pub lets : (ledger : ℕ → LedgerId) (old other : Objects) (task : TaskState) → AgreeAtLook (look_of task) old other
      → IsLet ledger old task (look_of task) → IsLet ledger other task (look_of task)
  pub steps : (scene : Scene) (old new other : State) (place : ℕ) (event : Event) → old.task place ≡ other.task place
      → AgreeAt (object_of (request scene.setup (old.task place))) old.objects other.objects
      → AgreeAtLook (look_of (old.task place)) old.objects other.objects
      → Steps scene old place event new
      → Steps scene other place event (with_step other new place (object_of (request scene.setup (old.task place))))

-- and a step no task but its own, so all others look at and ask for what they did before
abbrev pub OthersStay : Type 0
OthersStay = (scene : Scene) (old new : State) (place : ℕ) (event : Event) → Steps scene old place event new
    → (other : ℕ) → other ≢ place → new.task other ≡ old.task other

-- a run can be cut anywhere, and runs that follow on are one
pub record RunsAreJoined : Type 0 where
  pub splits : (scene : Scene) (old new : State) (first second : List Event) → IsRun scene old (first ++ second) new
      → (between : State) × IsRun scene old first between × IsRun scene between second new
  pub joins : (scene : Scene) (old between new : State) (first second : List Event)
      → IsRun scene old first between → IsRun scene between second new → IsRun scene old (first ++ second) new

-- a pool is told by its number
abbrev pub PoolsAreNumbered : Type 0
PoolsAreNumbered = (pool : PoolId) → IsOfStack pool → pool_of (pool_number pool) ≡ pool
