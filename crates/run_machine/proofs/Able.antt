-- What an event needs of the state that it comes in, as a function of what its task asks for: so that an event cannot come is a short fact about
-- one object, or that the task asks for something else.
use Rattle.std.proofs.Common.{◌≡◌, ◌+◌, ◌-◌, ◌^◌, ◌<◌, ◌==◌, ◌&&◌, ◌||◌, not, min, ℕ, zero, suc, Bool, IsTrue, true, false, length, sum, slice_get, Option, None, Some, inl, inr, refl, sym, ap, ◌∙◌, subst, arith}
use Rattle.std.proofs.lemmas.Bool.{eqb-true, eq-eqb, and_parts, or_cases, cases_eq, not-true, both_ways}
use Rattle.std.proofs.lemmas.Option.{same_Some, none-some}
use Rattle.elem_ledger.specs.Ledger.{LedgerId}
use Rattle.stack_base.specs.declared.ids.PoolId.{PoolId}
use Rattle.stack_base.specs.declared.ids.PoolId.TheVariants.{FsVecs, Records}
use Rattle.stack_base.specs.declared.ids.Status.{Status}
use Rattle.stack_base.specs.PoolId.{pool_number}
use Rattle.stack_base.specs.Fault.{fault}
use Rattle.mempool_core.specs.Move.{PoolState, CanMove, takes_ordinary, takes_spare, misses, gives}
use Rattle.bioset_pools.specs.Sets.{bios_of}
use Rattle.bio_records.specs.declared.bio.Pad.{Pad}
use Rattle.bio_records.specs.Items.{Item}
use Rattle.model_disks.specs.Disks.{DiskState}
use Rattle.bio_books.specs.Books.{BookState}
use Rattle.bio_books.specs.Links.{Made, NoRoom, Stray}
use Rattle.bio_books.specs.Drops.{Closed, Drops}
use Rattle.bio_books.specs.Drops as end
use Rattle.run_machine.specs.declared.event.Event.{Event}
use Rattle.run_machine.specs.declared.event.TaskId.{TaskId}
use Rattle.run_machine.specs.declared.event.TaskId.TheVariants as id
use Rattle.run_machine.specs.declared.event.Got.{Got}
use Rattle.run_machine.specs.declared.event.Got.TheVariants as got
use Rattle.run_machine.specs.declared.event.End.{End}
use Rattle.run_machine.specs.declared.event.End.TheVariants as left
use Rattle.run_machine.specs.declared.event.What.{What}
use Rattle.run_machine.specs.declared.event.What.TheVariants as what
use Rattle.run_machine.specs.Scene.{Scene}
use Rattle.run_machine.specs.Requests.{Request, Reply, Opening, TakeBio, TakeVec, TakeSlip, GiveBio, GiveVec, GiveSlip, Punt, Pop, Push, Complete, Link, Drop, Done, Resize, NextRound, LookRound, LookLeft, HadBio, HadVec, HadSlip, Missed, Did, Popped, Completed, LinkedTo, DroppedTo, OutIs, Present, LeftOver, Nothing}
use Rattle.run_machine.specs.Tasks.{TaskState, request, look_of, lets}
use Rattle.run_machine.specs.Objects.{Objects, OpensNode, TakesElement, Serves}
use Rattle.run_machine.specs.Events.{id_of, pool_of, how_of, resize_of, what_of}
use Rattle.run_machine.specs.Runs.{State, IsLet, Steps, IsEnabled}

-- An attempt that waits, at this pool: one that misses uses up an entry of the script. One that does not wait may miss behind the script, too.
abbrev pub CanTake : PoolState → Got → Type 0
CanTake pool got.Ordinary = CanMove pool takes_ordinary
CanTake pool got.Spare = CanMove pool takes_spare
CanTake pool got.Missed = CanMove pool (misses true)

abbrev pub CanTry : PoolState → Got → Type 0
CanTry pool got.Ordinary = CanMove pool takes_ordinary
CanTry pool got.Spare = CanMove pool takes_spare
CanTry pool got.Missed = (used : Bool) × CanMove pool (misses used)

-- the bio at this index of those that wait in a disk ends so
abbrev pub CanComplete : DiskState → ℕ → Status → Type 0
CanComplete disk index status =
    (bio : Item Pad) × (slice_get disk.pending index ≡ Some bio) × (status ≡ fault disk.bad bio.bio.range)

-- a node is opened at this place
abbrev pub CanOpen : BookState → Opening → ℕ → Type 0
CanOpen book opening place = (new : BookState) × OpensNode book opening (Made place) new

-- an end leaves this of the node at a place
abbrev pub CanEnd : BookState → ℕ → Status → Option (Item Pad) → End → Type 0
CanEnd book place status part left.Left = (new : BookState) × Drops book place status part end.Left new
CanEnd book place status part left.Up = (closed : Closed) × (new : BookState) × Drops book place status part (end.Up closed) new
CanEnd book place status part left.Top = (closed : Closed) × (new : BookState) × Drops book place status part (end.Top closed) new

-- what an event needs of the objects, where its task asks for this; an event of anything else is not the task's
abbrev pub Needs : Objects → Request → What → Type 0
-- takes and gives: of the pool that is asked, which can make the move
Needs old (TakeBio set true) (what.Take pool got) = (pool ≡ bios_of set) × CanTake (old.pool (pool_number (bios_of set))) got
Needs old (TakeBio set false) (what.Try pool got) = (pool ≡ bios_of set) × CanTry (old.pool (pool_number (bios_of set))) got
Needs old TakeVec (what.Take pool got) = (pool ≡ FsVecs) × CanTake (old.pool (pool_number FsVecs)) got
Needs old (TakeSlip dev) (what.Take pool got) = (pool ≡ Records dev) × CanTake (old.pool (pool_number (Records dev))) got
Needs old (GiveBio bio) (what.Give pool) = (pool ≡ pool_of bio.share.no) × CanMove (old.pool bio.share.no) gives
Needs old (GiveVec vector) (what.Give pool) = (pool ≡ pool_of vector.share.no) × CanMove (old.pool vector.share.no) gives
Needs old (GiveSlip slip) (what.Give pool) = (pool ≡ pool_of slip.share.no) × CanMove (old.pool slip.share.no) gives
-- lists of rescuers: the event has as many bios as are moved, or one waits
Needs old (Punt dev bios) (what.Punt of moved) = (of ≡ dev) × (moved ≡ min (length bios) (2 ^ 64 - 1))
Needs old (Pop dev) (what.Pop of) = (of ≡ dev) × (0 < length (old.rescue dev.0))
-- disks: the event has the range of the bio, or one waits at this index
Needs old (Push bio) (what.Push disk at len leg) =
    (disk ≡ bio.bio.dev) × (at ≡ bio.bio.range.start) × (len ≡ bio.bio.range.len) × (leg ≡ bio.pad.leg)
Needs old (Complete disk) (what.Complete of index status) = (of ≡ disk) × CanComplete (old.disk disk.0) index status
-- books: a node can be opened or told of an end so
Needs old (Link writer opening) (what.Link of how place) = (of ≡ writer) × (how ≡ how_of opening) × CanOpen (old.book writer) opening place
Needs old (Drop writer node status part) (what.Drop of place ended end) =
    (of ≡ writer) × (place ≡ node) × (ended ≡ status) × CanEnd (old.book writer) node status part end
-- the tally and reserves: of a reserve nothing is out, and a round is behind the present one
Needs old (Done write status) (what.Done of ended) = (of ≡ write) × (ended ≡ status)
Needs old (Resize pool min) (what.Resize of to) = (of ≡ pool) × (to ≡ min) × ((old.pool (pool_number pool)).facts.out ≡ 0)
Needs old (NextRound round) (what.Round of) = (of ≡ round) × (old.tally.round + 1 < length old.tally.left)
-- an event of anything else is not the task's
Needs old request what = ⊥

-- whether what a task looks at lets it ask
abbrev pub is_let : Objects → TaskState → Option Request → Bool
is_let old task (Some LookRound) = lets task (Present old.tally.round)
is_let old task (Some LookLeft) = lets task (LeftOver (sum old.tally.left))
is_let old task look = true

-- the task at this place can have the event next
pub record Can (scene : Scene) (old : State) (place : ℕ) (event : Event) : Type 0 where
  pub by : event.task ≡ id_of (old.task place)
  pub sees : IsTrue (is_let old.objects (old.task place) (look_of (old.task place)))
  pub needs : Needs old.objects (request scene.setup (old.task place)) event.what

has_take : (old new : Objects) (number : ℕ) (got : Got) → TakesElement old number got new → CanTake (old.pool number) got
has_take old new number got.Ordinary has = has.0
has_take old new number got.Spare has = has.0
has_take old new number got.Missed has = absurd has

has_try : (old new : Objects) (number : ℕ) (got : Got) → TakesElement old number got new → CanTry (old.pool number) got
has_try old new number got.Ordinary has = has.0
has_try old new number got.Spare has = has.0
has_try old new number got.Missed has = absurd has

-- what is told of a reply that serves, needs what it needs
module _ (ledger : ℕ → LedgerId) (old new : Objects) (told : What) where
  abbrev Told : Request → Reply → Type 0
  Told request reply = what_of request reply ≡ Some told → Serves ledger old request reply new → Needs old request told

  -- by the event that is told
  by_told : (request : Request) (is : What) → Some is ≡ Some told → Needs old request is → Needs old request told
  by_told request is said needs = subst (Needs old request) (same_Some is told said) needs

  of_links : (writer : ℕ) (opening : Opening) (reply : Reply) → Told (Link writer opening) reply
  of_links writer opening (LinkedTo (Made place)) said serves =
      by_told (Link writer opening) (what.Link writer (how_of opening) place) said (refl, refl, (new.book writer, serves.0))
  of_links writer opening (LinkedTo (NoRoom back)) said serves = absurd (none-some told said)
  of_links writer opening (LinkedTo (Stray back)) said serves = absurd (none-some told said)
  of_links writer opening _ said serves = absurd serves

  of_drops : (writer node : ℕ) (status : Status) (part : Option (Item Pad)) (reply : Reply) → Told (Drop writer node status part) reply
  of_drops writer node status part (DroppedTo end.Left) said serves =
      by_told (Drop writer node status part) (what.Drop writer node status left.Left) said (refl, refl, refl, (new.book writer, serves.0))
  of_drops writer node status part (DroppedTo (end.Up closed)) said serves =
      by_told (Drop writer node status part) (what.Drop writer node status left.Up) said (refl, refl, refl, (closed, new.book writer, serves.0))
  of_drops writer node status part (DroppedTo (end.Top closed)) said serves =
      by_told (Drop writer node status part) (what.Drop writer node status left.Top) said (refl, refl, refl, (closed, new.book writer, serves.0))
  of_drops writer node status part (DroppedTo (end.Stray back)) said serves = absurd (none-some told said)
  of_drops writer node status part _ said serves = absurd serves

  of_resizes : (pool : PoolId) (least out : ℕ) (home : Bool) → (out == 0) ≡ home → resize_of home pool least ≡ Some told
      → out ≡ (old.pool (pool_number pool)).facts.out → Needs old (Resize pool least) told
  of_resizes pool least out true home said is = by_told (Resize pool least) (what.Resize pool least) said (refl, refl, sym is ∙ eqb-true out 0 home)
  of_resizes pool least out false home said is = absurd (none-some told said)

  needs_of : (request : Request) (reply : Reply) → Told request reply
  -- takes: the pool made the move; a miss of a take that waits, with no entry used up, is no event
  needs_of (TakeBio set true) (HadBio got bio) said serves =
      by_told (TakeBio set true) (what.Take (bios_of set) got) said (refl, has_take old new (pool_number (bios_of set)) got serves.0)
  needs_of (TakeBio set true) (Missed true) said serves =
      by_told (TakeBio set true) (what.Take (bios_of set) got.Missed) said (refl, serves.0)
  needs_of (TakeBio set true) (Missed false) said serves = absurd (none-some told said)
  needs_of (TakeBio set false) (HadBio got bio) said serves =
      by_told (TakeBio set false) (what.Try (bios_of set) got) said (refl, has_try old new (pool_number (bios_of set)) got serves.0)
  needs_of (TakeBio set false) (Missed used) said serves =
      by_told (TakeBio set false) (what.Try (bios_of set) got.Missed) said (refl, (used, serves.0))
  needs_of TakeVec (HadVec got vector) said serves =
      by_told TakeVec (what.Take FsVecs got) said (refl, has_take old new (pool_number FsVecs) got serves.0)
  needs_of TakeVec (Missed true) said serves = by_told TakeVec (what.Take FsVecs got.Missed) said (refl, serves.0)
  needs_of TakeVec (Missed false) said serves = absurd (none-some told said)
  needs_of (TakeSlip dev) (HadSlip got slip) said serves =
      by_told (TakeSlip dev) (what.Take (Records dev) got) said (refl, has_take old new (pool_number (Records dev)) got serves.0)
  needs_of (TakeSlip dev) (Missed true) said serves = by_told (TakeSlip dev) (what.Take (Records dev) got.Missed) said (refl, serves.0)
  needs_of (TakeSlip dev) (Missed false) said serves = absurd (none-some told said)
  -- gives: the pool made the move
  needs_of (GiveBio bio) Did said serves = by_told (GiveBio bio) (what.Give (pool_of bio.share.no)) said (refl, serves.0)
  needs_of (GiveVec vector) Did said serves = by_told (GiveVec vector) (what.Give (pool_of vector.share.no)) said (refl, serves.0)
  needs_of (GiveSlip slip) Did said serves = by_told (GiveSlip slip) (what.Give (pool_of slip.share.no)) said (refl, serves.0)
  -- lists of rescuers: what is popped waited there
  needs_of (Punt dev moved) Did said serves =
      by_told (Punt dev moved) (what.Punt dev (min (length moved) (2 ^ 64 - 1))) said (refl, refl)
  needs_of (Pop dev) (Popped bio) said serves =
      by_told (Pop dev) (what.Pop dev) said (refl, subst (λ bios. 0 < length bios) (sym serves.0) (omega arith))
  needs_of (Pop dev) Nothing said serves = absurd (none-some told said)
  -- disks: what is completed waited there
  needs_of (Push bio) Did said serves =
      by_told (Push bio) (what.Push bio.bio.dev bio.bio.range.start bio.bio.range.len bio.pad.leg) said (refl, refl, refl, refl)
  needs_of (Complete disk) (Completed index bio status) said serves =
      by_told (Complete disk) (what.Complete disk index status) said (refl, (bio, serves.0.taken, serves.0.status))
  needs_of (Complete disk) Nothing said serves = absurd (none-some told said)
  -- books
  needs_of (Link writer opening) reply said serves = of_links writer opening reply said serves
  needs_of (Drop writer node status part) reply said serves = of_drops writer node status part reply said serves
  -- the tally and reserves
  needs_of (Done write status) Did said serves = by_told (Done write status) (what.Done write status) said (refl, refl)
  needs_of (Resize pool least) (OutIs out) said serves = of_resizes pool least out (out == 0) refl said serves.0
  needs_of (NextRound round) Did said serves = by_told (NextRound round) (what.Round round) said (refl, serves.0)
  -- looks are no events
  needs_of LookRound (Present round) said serves = absurd (none-some told said)
  needs_of LookLeft (LeftOver count) said serves = absurd (none-some told said)
  -- no other reply is one to the request
  needs_of _ reply said serves = absurd serves

-- what it saw is what is there
module _ (ledger : ℕ → LedgerId) (old : Objects) (task : TaskState) where
  saw_round : (seen : Reply) → Serves ledger old LookRound seen old → IsTrue (lets task seen) → IsTrue (lets task (Present old.tally.round))
  saw_round (Present round) serves is = subst (λ n. IsTrue (lets task (Present n))) serves.0 is
  saw_round _ serves is = absurd serves

  saw_left : (seen : Reply) → Serves ledger old LookLeft seen old → IsTrue (lets task seen) → IsTrue (lets task (LeftOver (sum old.tally.left)))
  saw_left (LeftOver count) serves is = subst (λ n. IsTrue (lets task (LeftOver n))) serves.0 is
  saw_left _ serves is = absurd serves

  saw : (look : Option Request) → IsLet ledger old task look → IsTrue (is_let old task look)
  saw None is = refl
  saw (Some LookRound) is = saw_round is.0 is.1 is.2
  saw (Some LookLeft) is = saw_left is.0 is.1 is.2
  saw (Some _) is = refl

pub can_of : (scene : Scene) (old new : State) (place : ℕ) (event : Event) → Steps scene old place event new → Can scene old place event
can_of scene old new place event steps = record {
  by = steps.by;
  sees = saw scene.ledger old.objects (old.task place) (look_of (old.task place)) steps.is_let;
  needs = needs_of scene.ledger old.objects new.objects event.what (request scene.setup (old.task place)) steps.reply steps.told steps.serves;
}

-- no place below this number but this one has the task
abbrev pub same_task : TaskId → TaskId → Bool
same_task (id.Writer one) (id.Writer other) = one == other
same_task (id.Rescuer one) (id.Rescuer other) = one.0 == other.0
same_task (id.Completer one) (id.Completer other) = one.0 == other.0
same_task id.Keeper id.Keeper = true
same_task one other = false

abbrev pub is_alone : TaskId → (ℕ → TaskState) → ℕ → ℕ → Bool
is_alone who task place zero = true
is_alone who task place (suc n) = is_alone who task place n && ((n == place) || not (same_task who (id_of (task n))))

is_itself : (who : TaskId) → same_task who who ≡ true
is_itself (id.Writer number) = eq-eqb number number refl
is_itself (id.Rescuer dev) = eq-eqb dev.0 dev.0 refl
is_itself (id.Completer dev) = eq-eqb dev.0 dev.0 refl
is_itself id.Keeper = refl

module _ (who : TaskId) (task : ℕ → TaskState) (place : ℕ) where
  -- the last place is this one, or has another task
  last_place : (n : ℕ) → (n ≡ place → ⊥) → ((n == place) || not (same_task who (id_of (task n)))) ≡ true → who ≡ id_of (task n) → ⊥
  last_place n ne is by = elim (or_cases (n == place) (not (same_task who (id_of (task n)))) is) [
    | inl here ↦ ne (eqb-true n place here)
    | inr other ↦ both_ways (same_task who (id_of (task n))) (not-true (same_task who (id_of (task n))) other)
        (subst (λ id. same_task who id ≡ true) by (is_itself who))
  ]

  one_place : (n : ℕ) → is_alone who task place n ≡ true → (at : ℕ) → at < n → (at ≡ place → ⊥) → who ≡ id_of (task at) → ⊥
  one_place zero is at below ne by = absurd (omega (arith, below))
  one_place (suc n) is at below ne by =
      let parts = and_parts (is_alone who task place n) ((n == place) || not (same_task who (id_of (task n)))) is in
      elim (cases_eq at n) [
        | inl e ↦ last_place n (λ is. ne (e ∙ is)) parts.1 (by ∙ ap (λ k. id_of (task k)) e)
        | inr other ↦ one_place n parts.0 at (omega (arith, below, other)) ne by
      ]

-- An event cannot come where the only place that has its task cannot have it.
pub not_next : (scene : Scene) (old : State) (event : Event) (place : ℕ) → is_alone event.task old.task place scene.tasks ≡ true
    → (Can scene old place event → ⊥) → IsEnabled scene old event → ⊥
not_next scene old event place alone cannot (new, (at, steps)) = elim (cases_eq at place) [
  | inl e ↦ cannot (subst (λ n. Can scene old n event) e (can_of scene old new at event steps))
  | inr other ↦ one_place event.task old.task place scene.tasks alone at steps.here other steps.by
]
