-- What a request makes of its object is told by that object and the request, and what an event does by its task and that object.
use Rattle.std.proofs.Common.{◌≡◌, ◌==◌, ◌+◌, ◌<◌, ◌++◌, if◌then◌else◌, ℕ, Bool, true, false, ◌∷◌, length, Option, None, Some, refl, sym, ap, subst, ◌∙◌}
use Rattle.std.specs.Prelude.{sum}
use Rattle.elem_ledger.specs.Ledger.{LedgerId}
use Rattle.mempool_core.specs.Move.{PoolMove, takes_ordinary, takes_spare, misses, gives, resizes, CanMove, after_move}
use Rattle.model_disks.specs.Moves.{pushed, Completes}
use Rattle.bio_books.specs.Drops.{Drops}
use Rattle.run_machine.specs.declared.event.Event.{Event}
use Rattle.run_machine.specs.declared.event.Got.{Got}
use Rattle.run_machine.specs.declared.event.Got.TheVariants.{Ordinary, Spare}
use Rattle.run_machine.specs.declared.event.Got.TheVariants as got
use Rattle.run_machine.specs.Maps.{upd}
use Rattle.run_machine.specs.Scene.{Scene}
use Rattle.run_machine.specs.Requests.{Request, Reply, TakeBio, TakeVec, TakeSlip, GiveBio, GiveVec, GiveSlip, Punt, Pop, Push, Complete, Link, Drop, Done, Resize, NextRound, LookRound, LookLeft, HadBio, HadVec, HadSlip, Missed, Did, Popped, Completed, LinkedTo, DroppedTo, OutIs, Present, LeftOver, Nothing}
use Rattle.run_machine.specs.Tasks.{TaskState, request, look_of, answered}
use Rattle.run_machine.specs.Objects.{Objects, TallyState, MovesPool, TakesElement, OpensNode, Serves, done_one}
use Rattle.run_machine.specs.Events.{id_of, what_of}
use Rattle.run_machine.specs.Runs.{State, IsLet, Steps}
use Rattle.run_machine.specs.Laws.{Object, OfBook, OfNone, OfPool, OfRescuer, OfDisk, OfTally, with_object, object_of, AgreeAt, AgreeAtLook, OneObjectDecides, with_step}
use Rattle.run_machine.proofs.Frames.{upd_same, upd_own}

-- a pool that is alike makes the same move
moves_too : (old new other : Objects) (number : ℕ) (move : PoolMove) → old.pool number ≡ other.pool number
    → MovesPool old number move new → MovesPool other number move (with_object other new (OfPool number))
moves_too old new other number move same moves =
    let at : new.pool number ≡ after_move (other.pool number) move =
    ap (λ o. o.pool number) moves.1 ∙ upd_same old.pool number _ ∙ ap (λ p. after_move p move) same in
    (subst (λ p. CanMove p move) same moves.0, ap (λ p. record other { pool = upd other.pool number p }) at)

has_too : (old new other : Objects) (number : ℕ) (from : Got) → old.pool number ≡ other.pool number
    → TakesElement old number from new → TakesElement other number from (with_object other new (OfPool number))
has_too old new other number Ordinary same has = moves_too old new other number takes_ordinary same has
has_too old new other number Spare same has = moves_too old new other number takes_spare same has
has_too old new other number got.Missed same has = absurd has

-- where an object stays, so does the other one
pool_too : (old new other : Objects) (number : ℕ) → old.pool number ≡ other.pool number → new ≡ old → with_object other new (OfPool number) ≡ other
pool_too old new other number same is =
    ap (λ p. record other { pool = upd other.pool number p }) (ap (λ o. o.pool number) is ∙ same) ∙ ap (λ f. record other { pool = f }) (upd_own other.pool number)

rescue_too : (old new other : Objects) (dev : ℕ) → old.rescue dev ≡ other.rescue dev → new ≡ old → with_object other new (OfRescuer dev) ≡ other
rescue_too old new other dev same is =
    ap (λ l. record other { rescue = upd other.rescue dev l }) (ap (λ o. o.rescue dev) is ∙ same) ∙ ap (λ f. record other { rescue = f }) (upd_own other.rescue dev)

disk_too : (old new other : Objects) (dev : ℕ) → old.disk dev ≡ other.disk dev → new ≡ old → with_object other new (OfDisk dev) ≡ other
disk_too old new other dev same is =
    ap (λ d. record other { disk = upd other.disk dev d }) (ap (λ o. o.disk dev) is ∙ same) ∙ ap (λ f. record other { disk = f }) (upd_own other.disk dev)

tally_too : (old new other : Objects) → old.tally ≡ other.tally → new ≡ old → with_object other new OfTally ≡ other
tally_too old new other same is = ap (λ t. record other { tally = t }) (ap (λ o. o.tally) is ∙ same)

-- a reserve changes where it did, and stays where it stayed
resizes_too : (old new other : Objects) (number min : ℕ) (home : Bool) → old.pool number ≡ other.pool number
    → new ≡ (if home then record old { pool = upd old.pool number (after_move (old.pool number) (resizes min)) } else old)
    → with_object other new (OfPool number) ≡ (if home then record other { pool = upd other.pool number (after_move (other.pool number) (resizes min)) } else other)
resizes_too old new other number min true same is =
    ap (λ p. record other { pool = upd other.pool number p })
    (ap (λ o. o.pool number) is ∙ upd_same old.pool number _ ∙ ap (λ p. after_move p (resizes min)) same)
resizes_too old new other number min false same is = pool_too old new other number same is

serves_too : (ledger : ℕ → LedgerId) (old new other : Objects) (asked : Request) (reply : Reply) → AgreeAt (object_of asked) old other
    → Serves ledger old asked reply new → Serves ledger other asked reply (with_object other new (object_of asked))
-- takes and gives: a pool that is alike makes the same move
serves_too ledger old new other (TakeBio set waits) (HadBio from bio) same serves = (has_too old new other _ from same serves.0, serves.1)
serves_too ledger old new other (TakeBio set waits) (Missed used) same serves = moves_too old new other _ (misses used) same serves
serves_too ledger old new other TakeVec (HadVec from vector) same serves = (has_too old new other _ from same serves.0, serves.1)
serves_too ledger old new other TakeVec (Missed used) same serves = moves_too old new other _ (misses used) same serves
serves_too ledger old new other (TakeSlip dev) (HadSlip from slip) same serves = (has_too old new other _ from same serves.0, serves.1)
serves_too ledger old new other (TakeSlip dev) (Missed used) same serves = moves_too old new other _ (misses used) same serves
serves_too ledger old new other (GiveBio bio) Did same serves = moves_too old new other _ gives same serves
serves_too ledger old new other (GiveVec vector) Did same serves = moves_too old new other _ gives same serves
serves_too ledger old new other (GiveSlip slip) Did same serves = moves_too old new other _ gives same serves
-- lists of rescuers: one that is alike gets the same bios, and has the same first one
serves_too ledger old new other (Punt dev moved) Did same serves =
    ap (λ l. record other { rescue = upd other.rescue dev.0 l })
    (ap (λ o. o.rescue dev.0) serves ∙ upd_same old.rescue dev.0 _ ∙ ap (λ l. l ++ moved) same)
serves_too ledger old new other (Pop dev) (Popped bio) same serves =
    let at = upd_same other.rescue dev.0 (new.rescue dev.0) in
    (sym same ∙ serves.0 ∙ ap (λ l. bio ∷ l) (sym at), ap (λ l. record other { rescue = upd other.rescue dev.0 l }) (sym at))
serves_too ledger old new other (Pop dev) Nothing same serves = (sym same ∙ serves.0, rescue_too old new other dev.0 same serves.1)
-- disks: one that is alike gets the same bio, and ends the same one
serves_too ledger old new other (Push bio) Did same serves =
    ap (λ d. record other { disk = upd other.disk bio.bio.dev.0 d })
    (ap (λ o. o.disk bio.bio.dev.0) serves ∙ upd_same old.disk bio.bio.dev.0 _ ∙ ap (pushed bio) same)
serves_too ledger old new other (Complete disk) (Completed index bio status) same serves =
    let at = upd_same other.disk disk.0 (new.disk disk.0) in
    let here : Completes (other.disk disk.0) index bio status (new.disk disk.0) =
    subst (λ d. Completes d index bio status (new.disk disk.0)) same serves.0 in
    (subst (Completes (other.disk disk.0) index bio status) (sym at) here, ap (λ d. record other { disk = upd other.disk disk.0 d }) (sym at))
serves_too ledger old new other (Complete disk) Nothing same serves =
    (ap (λ d. d.pending) (sym same) ∙ serves.0, disk_too old new other disk.0 same serves.1)
-- books: one that is alike opens the same node, or is told of the same end
serves_too ledger old new other (Link writer opening) (LinkedTo answer) same serves =
    let at = upd_same other.book writer (new.book writer) in
    let here : OpensNode (other.book writer) opening answer (new.book writer) =
    subst (λ b. OpensNode b opening answer (new.book writer)) same serves.0 in
    (subst (OpensNode (other.book writer) opening answer) (sym at) here, ap (λ b. record other { book = upd other.book writer b }) (sym at))
serves_too ledger old new other (Drop writer node status part) (DroppedTo ended) same serves =
    let at = upd_same other.book writer (new.book writer) in
    let here : Drops (other.book writer) node status part ended (new.book writer) =
    subst (λ b. Drops b node status part ended (new.book writer)) same serves.0 in
    (subst (Drops (other.book writer) node status part ended) (sym at) here, ap (λ b. record other { book = upd other.book writer b }) (sym at))
-- the tally and reserves
serves_too ledger old new other (Done write status) Did same serves =
    ap (λ t. record other { tally = t }) (ap (λ o. o.tally) serves ∙ ap (done_one write status) same)
serves_too ledger old new other (Resize pool min) (OutIs out) same serves =
    (serves.0 ∙ ap (λ p. p.facts.out) same, resizes_too old new other _ min (out == 0) same serves.1)
serves_too ledger old new other (NextRound round) Did same serves = (
  subst (λ t. t.round + 1 < length t.left) same serves.0,
  ap (λ t. record other { tally = t }) (ap (λ o. o.tally) serves.1 ∙ ap {A = TallyState} {B = TallyState} (λ t. record t { round = t.round + 1 }) same),
)
-- looks: a tally that is alike shows the same, and stays
serves_too ledger old new other LookRound (Present round) same serves = (serves.0 ∙ ap (λ t. t.round) same, tally_too old new other same serves.1)
serves_too ledger old new other LookLeft (LeftOver count) same serves = (serves.0 ∙ ap (λ t. sum t.left) same, tally_too old new other same serves.1)
-- no other reply is one to the request
serves_too ledger old new other asked reply same serves = absurd serves

-- objects with one of them put there that they have already are as they were
agreed : (old other : Objects) (object : Object) → AgreeAt object old other → with_object other old object ≡ other
agreed old other (OfPool number) same = pool_too old old other number same refl
agreed old other (OfRescuer dev) same = rescue_too old old other dev same refl
agreed old other (OfDisk dev) same = disk_too old old other dev same refl
agreed old other (OfBook writer) same =
    ap (λ b. record other { book = upd other.book writer b }) same ∙ ap (λ f. record other { book = f }) (upd_own other.book writer)
agreed old other OfTally same = ap (λ t. record other { tally = t }) same
agreed old other OfNone same = refl

lets_too : (ledger : ℕ → LedgerId) (old other : Objects) (task : TaskState) (look : Option Request) → AgreeAtLook look old other
    → IsLet ledger old task look → IsLet ledger other task look
lets_too ledger old other task None same is = is
lets_too ledger old other task (Some look) same (seen, serves, is) = (
  seen,
  subst (Serves ledger other look seen) (agreed old other (object_of look) same) (serves_too ledger old old other look seen same serves),
  is,
)

steps_too : (scene : Scene) (old new other : State) (place : ℕ) (event : Event) → old.task place ≡ other.task place
    → AgreeAt (object_of (request scene.setup (old.task place))) old.objects other.objects
    → AgreeAtLook (look_of (old.task place)) old.objects other.objects
    → Steps scene old place event new
    → Steps scene other place event (with_step other new place (object_of (request scene.setup (old.task place))))
steps_too scene old new other place event same asks looks steps =
    let asked = request scene.setup (old.task place) in
    let later = with_object other.objects new.objects (object_of asked) in
    let goes : new.task place ≡ answered scene.setup (other.task place) steps.reply =
    ap (λ f. f place) steps.goes_on ∙ upd_same old.task place _ ∙ ap (λ t. answered scene.setup t steps.reply) same in record {
      here = steps.here;
      by = steps.by ∙ ap id_of same;
      is_let = subst (λ t. IsLet scene.ledger other.objects t (look_of t)) same
          (lets_too scene.ledger old.objects other.objects (old.task place) (look_of (old.task place)) looks steps.is_let);
      reply = steps.reply;
      told = subst (λ t. what_of (request scene.setup t) steps.reply ≡ Some event.what) same steps.told;
      serves = subst (λ t. Serves scene.ledger other.objects (request scene.setup t) steps.reply later) same
          (serves_too scene.ledger old.objects new.objects other.objects asked steps.reply asks steps.serves);
      goes_on = ap (upd other.task place) goes;
    }

pub one_object_decides : OneObjectDecides
one_object_decides = record {
  serves = serves_too;
  lets = λ ledger old other task. lets_too ledger old other task (look_of task);
  steps = steps_too;
}
