-- What is told of a step is told of its event: whose it is, what it does to a node and what is paid for it.
use Rattle.std.proofs.Common.{◌≡◌, ℕ, Bool, true, false, Option, None, Some, refl, sym, ap}
use Rattle.std.proofs.lemmas.Option.{none-some}
use Rattle.stack_base.specs.declared.ids.PoolId.{PoolId}
use Rattle.bio_books.specs.Books.{told}
use Rattle.run_machine.specs.Maps.{upd}
use Rattle.run_machine.specs.Scene.{Scene}
use Rattle.run_machine.specs.Tasks.{TaskState, request, answered}
use Rattle.run_machine.specs.Objects.{Objects, Serves}
use Rattle.run_machine.specs.Runs.{State}
use Rattle.block_core.specs.Payers.{payer_of, Paid}
use Rattle.block_core.specs.Payers as paid
use Rattle.block_core.specs.Paying.{end_told, paid_as}
use Rattle.block_core.specs.Touches.{Touch, Passes, touch_of}
use Rattle.block_core.proofs.moves.Moves.{Move, place_of, touch_by, Can, after}
use Rattle.block_core.proofs.moves.PaidKinds.{kind_of}
use Rattle.run_machine.specs.declared.event.Got.{Got}
use Rattle.run_machine.specs.declared.event.Got.TheVariants as got
use Rattle.run_machine.specs.declared.event.What.{What}
use Rattle.run_machine.specs.Events.{what_of, take_of, miss_of}
use Rattle.run_machine.specs.Requests.{Reply}

pub record IsMove (scene : Scene) (s : State) (place : ℕ) (what : What) (new : State) : Type 0 where
  pub move : Move
  pub can : Can scene s move
  pub is : new ≡ after scene s move
  pub at : place_of move ≡ place
  pub touches : touch_of what ≡ touch_by move
  pub pays : (was_master : Bool) → paid_as (end_told was_master (s.task place)) what ≡ kind_of was_master move

-- the kind of an end that the task tells next
abbrev pub its_end : State → ℕ → Bool → Paid
its_end s place was_master = end_told was_master (s.task place)

-- a step leaves its own task so, and every other as it was
abbrev pub Goes : State → ℕ → State → TaskState → Type 0
Goes s place new y = new.task ≡ upd s.task place y

-- a step of a task with this answer is one of the events
abbrev pub Moved : Scene → State → ℕ → What → State → TaskState → Reply → Type 0
Moved scene s place what new x reply =
    what_of (request scene.setup x) reply ≡ Some what → Serves scene.ledger s.objects (request scene.setup x) reply new.objects
    → Goes s place new (answered scene.setup x reply) → IsMove scene s place what new

-- what is told of a take touches no node
abbrev pub touch_in : Option What → Touch
touch_in None = Passes
touch_in (Some what) = touch_of what

pub take_passes : (waits : Bool) (pool : PoolId) (from : Got) → touch_of (take_of waits pool from) ≡ Passes
take_passes true pool from = refl
take_passes false pool from = refl

-- what is paid for it
abbrev pub paid_in : Paid → Option What → Paid
paid_in end None = end
paid_in end (Some what) = paid_as end what

pub take_ordinary : (end : Paid) (waits : Bool) (pool : PoolId) → paid_as end (take_of waits pool got.Ordinary) ≡ paid.IsTaken (payer_of pool)
take_ordinary end true pool = refl
take_ordinary end false pool = refl

pub take_spare : (end : Paid) (waits : Bool) (pool : PoolId) → paid_as end (take_of waits pool got.Spare) ≡ paid.IsTaken (payer_of pool)
take_spare end true pool = refl
take_spare end false pool = refl

pub miss_passes : (waits used : Bool) (pool : PoolId) → touch_in (miss_of waits used pool) ≡ Passes
miss_passes true true pool = refl
miss_passes true false pool = refl
miss_passes false used pool = refl

pub state_is : (new : State) (o : Objects) (t : ℕ → TaskState) → new.objects ≡ o → new.task ≡ t → new ≡ record { objects = o; task = t }
state_is new o t a b = λ j. record { objects = a j; task = b j }

-- a miss that leaves the task as it is is told where it used up an entry
pub used_told : (used : Bool) (pool : PoolId) (what : What) → miss_of true used pool ≡ Some what → used ≡ true
used_told true pool what told = refl
used_told false pool what told = absurd (none-some what told)

pub miss_pays : (end : Paid) (used : Bool) (pool : PoolId) (what : What) → miss_of true used pool ≡ Some what → paid_as end what ≡ paid.MissesWaiting
miss_pays end true pool what told = sym (ap (paid_in end) told)
miss_pays end false pool what told = absurd (none-some what told)
