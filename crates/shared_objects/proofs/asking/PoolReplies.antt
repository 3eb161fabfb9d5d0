-- Calls of pools, as replies of the objects.
use Rattle.std.proofs.Common.{◌≡◌, ◌==◌, ℕ, Bool, true, Result, Ok, Err, refl, sym, ap, subst, ◌∙◌}
use Rattle.std.specs.Prelude.{IsTrue, IfErr}
use Rattle.elem_ledger.specs.Ledger.{LedgerId}
use Rattle.elem_ledger.specs.declared.element.Element.{Element}
use Rattle.stack_base.specs.declared.ids.DevId.{DevId}
use Rattle.stack_base.specs.declared.ids.PoolId.{PoolId}
use Rattle.stack_base.specs.declared.ids.PoolId.TheVariants.{FsBios, FsVecs, Bios, Records}
use Rattle.stack_base.specs.declared.ids.SetId.{SetId}
use Rattle.stack_base.specs.declared.ids.SetId.TheVariants.{Fs, Of}
use Rattle.stack_base.specs.PoolId.{pool_number}
use Rattle.mempool_core.specs.declared.Taken.{Taken}
use Rattle.mempool_core.specs.declared.Taken.TheVariants as taken
use Rattle.mempool_core.specs.Taken.{IsHandedOut}
use Rattle.bio_records.specs.declared.bio.Pad.{Pad}
use Rattle.bio_records.specs.declared.bio.Slip.{Slip}
use Rattle.bio_records.specs.declared.body.BioBody.{BioBody}
use Rattle.bio_records.specs.declared.segment.Vector.{Vector}
use Rattle.bio_records.specs.Clear.{IsClearBody, IsClearSlip, IsClearVector}
use Rattle.bio_records.specs.Items.{item_of}
use Rattle.bio_books.specs.Views.{slip_item}
use Rattle.bioset_pools.specs.Sets.{bios_of}
use Rattle.run_machine.specs.declared.event.Got.{Got}
use Rattle.run_machine.specs.declared.event.Got.TheVariants as got
use Rattle.run_machine.specs.Laws.{OfPool, object_of}
use Rattle.run_machine.specs.Requests.{Request, Reply, TakeBio, TakeVec, TakeSlip, HadBio, HadVec, HadSlip}
use Rattle.run_machine.specs.Objects.{clear_bio, clear_vector, clear_slip}
use Rattle.task_steps.specs.declared.objects.Unmade.{Unmade}
use Rattle.task_steps.specs.declared.objects.Unmade.TheVariants as unmade
use Rattle.task_steps.specs.Stage.{Stage, Owes, is_bios, is_set, is_pool, is_slips, is_vecs, has_mirror}
use Rattle.task_steps.specs.Views.{TookClear, took_bio, took_vec, took_slip, vec_item}
use Rattle.task_core.specs.ObjectsOf.{AreNumbered}
use Rattle.task_core.proofs.Keeping.{home_in_pool, mirror_is_slips, set_is_bios}
use Rattle.task_core.proofs.own.PlainTakes.{clear_bio_is, clear_vector_is, clear_slip_is}
use Rattle.object_things.specs.Pools.{TookFrom, WaitsAt, had_of, take_request, took}
use Rattle.shared_objects.specs.Desks.{DeskState, HasCalled}
use Rattle.shared_objects.specs.declared.locks.Locks.{Locks}
use Rattle.shared_objects.specs.declared.seats.TaskSeats.{TaskSeats}
use Rattle.shared_objects.specs.Holding.{DeskHolds, stage_at}

-- elements as pools hand them out are clear ones
bio_is : (ledger : LedgerId) (el : Element (BioBody Pad)) → IsHandedOut IsClearBody ledger el → clear_bio el.share ≡ item_of el
bio_is ledger el out = ap clear_bio out.share ∙ sym (clear_bio_is ledger el out)

vector_is : (ledger : LedgerId) (el : Element Vector) → IsHandedOut IsClearVector ledger el → clear_vector el.share ≡ vec_item el
vector_is ledger el out = ap clear_vector out.share ∙ sym (clear_vector_is ledger el out)

slip_is : (ledger : LedgerId) (el : Element Slip) → IsHandedOut IsClearSlip ledger el → clear_slip el.share ≡ slip_item el
slip_is ledger el out = ap clear_slip out.share ∙ sym (clear_slip_is ledger el out)

-- what is asked of a pool asks the object of its number
pub take_named : (pool : PoolId) (waits : Bool) → object_of (take_request pool waits) ≡ OfPool (pool_number pool)
take_named FsBios waits = refl
take_named FsVecs waits = refl
take_named (Bios dev) waits = refl
take_named (Records dev) waits = refl

pub bios_waits : (set : SetId) (waits : Bool) → WaitsAt (bios_of set) waits
bios_waits Fs waits = tt
bios_waits (Of dev) waits = tt

take_bio_of : (set : SetId) (waits : Bool) → take_request (bios_of set) waits ≡ TakeBio set waits
take_bio_of Fs waits = refl
take_bio_of (Of dev) waits = refl

had_bio_of : (set : SetId) (from : Got) (share : LedgerId) → had_of (bios_of set) from share ≡ HadBio from (clear_bio share)
had_bio_of Fs from share = refl
had_bio_of (Of dev) from share = refl

bio_took : (ledger : LedgerId) (set : SetId) (result : Result (Taken (BioBody Pad)) Unmade) → TookFrom IsClearBody ledger result → took (bios_of set) result ≡ took_bio result
bio_took ledger set (Ok (taken.Ordinary el)) out = had_bio_of set got.Ordinary el.share ∙ ap (HadBio got.Ordinary) (bio_is ledger el out)
bio_took ledger set (Ok (taken.Spare el)) out = had_bio_of set got.Spare el.share ∙ ap (HadBio got.Spare) (bio_is ledger el out)
bio_took ledger set (Ok (taken.Miss used)) out = refl
bio_took ledger set (Err back) out = refl

vec_took : (ledger : LedgerId) (result : Result (Taken Vector) Unmade) → TookFrom IsClearVector ledger result → took FsVecs result ≡ took_vec result
vec_took ledger (Ok (taken.Ordinary el)) out = ap (HadVec got.Ordinary) (vector_is ledger el out)
vec_took ledger (Ok (taken.Spare el)) out = ap (HadVec got.Spare) (vector_is ledger el out)
vec_took ledger (Ok (taken.Miss used)) out = refl
vec_took ledger (Err back) out = refl

slip_took : (ledger : LedgerId) (dev : DevId) (result : Result (Taken Slip) Unmade) → TookFrom IsClearSlip ledger result → took (Records dev) result ≡ took_slip result
slip_took ledger dev (Ok (taken.Ordinary el)) out = ap (HadSlip got.Ordinary) (slip_is ledger el out)
slip_took ledger dev (Ok (taken.Spare el)) out = ap (HadSlip got.Spare) (slip_is ledger el out)
slip_took ledger dev (Ok (taken.Miss used)) out = refl
slip_took ledger dev (Err back) out = refl

-- A take that was told by its pool, which tells its own name, is one of the objects.
module _ (old new : DeskState) (pool from : PoolId) (same : from ≡ pool) where
  pub bio_served : (set : SetId) (waits : Bool) (ledger : LedgerId) (result : Result (Taken (BioBody Pad)) Unmade) → pool ≡ bios_of set
      → TookFrom IsClearBody ledger result → HasCalled old (take_request pool waits) (took from result) new → HasCalled old (TakeBio set waits) (took_bio result) new
  bio_served set waits ledger result e out called =
      subst (λ (asked : Request). HasCalled old asked (took_bio result) new) (ap (λ p. take_request p waits) e ∙ take_bio_of set waits)
      (subst (λ (reply : Reply). HasCalled old (take_request pool waits) reply new) (ap (λ p. took p result) (same ∙ e) ∙ bio_took ledger set result out) called)

  pub vec_served : (ledger : LedgerId) (result : Result (Taken Vector) Unmade) → pool ≡ FsVecs
      → TookFrom IsClearVector ledger result → HasCalled old (take_request pool true) (took from result) new → HasCalled old TakeVec (took_vec result) new
  vec_served ledger result e out called =
      subst (λ (asked : Request). HasCalled old asked (took_vec result) new) (ap (λ p. take_request p true) e)
      (subst (λ (reply : Reply). HasCalled old (take_request pool true) reply new) (ap (λ p. took p result) (same ∙ e) ∙ vec_took ledger result out) called)

  pub slip_served : (dev : DevId) (ledger : LedgerId) (result : Result (Taken Slip) Unmade) → pool ≡ Records dev
      → TookFrom IsClearSlip ledger result → HasCalled old (take_request pool true) (took from result) new → HasCalled old (TakeSlip dev) (took_slip result) new
  slip_served dev ledger result e out called =
      subst (λ (asked : Request). HasCalled old asked (took_slip result) new) (ap (λ p. take_request p true) e)
      (subst (λ (reply : Reply). HasCalled old (take_request pool true) reply new) (ap (λ p. took p result) (same ∙ e) ∙ slip_took ledger dev result out) called)

-- what is taken is of the pool that was named
module _ (stage : Stage) (numbered : AreNumbered stage) where
  pub bio_owed : (set : SetId) (waits : Bool) (result : Result (Taken (BioBody Pad)) Unmade) → IsTrue (is_set stage set)
      → TookFrom IsClearBody (stage.ledger (pool_number (bios_of set))) result → Owes stage (TakeBio set waits) (took_bio result)
  bio_owed set waits (Ok (taken.Ordinary el)) is out = home_in_pool stage is_bios (pool_number (bios_of set)) el.share numbered (set_is_bios stage set is) out.share
  bio_owed set waits (Ok (taken.Spare el)) is out = home_in_pool stage is_bios (pool_number (bios_of set)) el.share numbered (set_is_bios stage set is) out.share
  bio_owed set waits (Ok (taken.Miss used)) is out = tt
  bio_owed set waits (Err back) is out = tt

  pub vec_owed : (result : Result (Taken Vector) Unmade) → TookFrom IsClearVector (stage.ledger 64) result → Owes stage TakeVec (took_vec result)
  vec_owed (Ok (taken.Ordinary el)) out = home_in_pool stage is_vecs 64 el.share numbered refl out.share
  vec_owed (Ok (taken.Spare el)) out = home_in_pool stage is_vecs 64 el.share numbered refl out.share
  vec_owed (Ok (taken.Miss used)) out = tt
  vec_owed (Err back) out = tt

  pub slip_owed : (dev : DevId) (result : Result (Taken Slip) Unmade) → IsTrue (has_mirror stage dev)
      → TookFrom IsClearSlip (stage.ledger (pool_number (Records dev))) result → Owes stage (TakeSlip dev) (took_slip result)
  slip_owed dev (Ok (taken.Ordinary el)) is out = home_in_pool stage is_slips (pool_number (Records dev)) el.share numbered (mirror_is_slips stage dev is) out.share
  slip_owed dev (Ok (taken.Spare el)) is out = home_in_pool stage is_slips (pool_number (Records dev)) el.share numbered (mirror_is_slips stage dev is) out.share
  slip_owed dev (Ok (taken.Miss used)) is out = tt
  slip_owed dev (Err back) is out = tt

-- it is clear, and nothing comes back where there was no ticket
pub bio_clear : (ledger : LedgerId) (result : Result (Taken (BioBody Pad)) Unmade) → TookFrom IsClearBody ledger result → TookClear IsClearBody result
bio_clear ledger (Ok (taken.Ordinary el)) out = out.clear
bio_clear ledger (Ok (taken.Spare el)) out = out.clear
bio_clear ledger (Ok (taken.Miss used)) out = tt
bio_clear ledger (Err back) out = tt

pub back_none : {P : Type 0} (is_clear : P → Type 0) (ledger : LedgerId) (result : Result (Taken P) Unmade) → TookFrom is_clear ledger result → IfErr result (λ back. back ≡ unmade.Nothing)
back_none is_clear ledger (Ok (taken.Ordinary el)) out = tt
back_none is_clear ledger (Ok (taken.Spare el)) out = tt
back_none is_clear ledger (Ok (taken.Miss used)) out = tt
back_none is_clear ledger (Err back) out = out

-- the ledgers of a desk are of their numbers
pub desk_numbered : (locks : Locks) (seats : TaskSeats) → DeskHolds locks seats → AreNumbered (stage_at locks)
desk_numbered locks seats holds = holds.locked.opened.numbered

-- the numbers of pools that are named
pub set_is_pool : (stage : Stage) (set : SetId) (pool : PoolId) (number : ℕ) → IsTrue (is_set stage set) → pool ≡ bios_of set → number ≡ pool_number pool → IsTrue (is_bios stage number)
set_is_pool stage set pool number is named e =
    subst (λ n. IsTrue (is_bios stage n)) (sym (e ∙ ap pool_number named)) (set_is_bios stage set is)

pub set_has_pool : (stage : Stage) (set : SetId) (pool : PoolId) (number : ℕ) → IsTrue (is_pool stage (bios_of set)) → pool ≡ bios_of set → number ≡ pool_number pool → IsTrue (is_bios stage number)
set_has_pool stage Fs pool number is named e = subst (λ n. IsTrue (is_bios stage n)) (sym (e ∙ ap pool_number named)) (set_is_bios stage Fs refl)
set_has_pool stage (Of dev) pool number is named e = subst (λ n. IsTrue (is_bios stage n)) (sym (e ∙ ap pool_number named)) (set_is_bios stage (Of dev) is)

pub mirror_is_pool : (stage : Stage) (dev : DevId) (number : ℕ) → IsTrue (has_mirror stage dev) → number ≡ pool_number (Records dev) → IsTrue (is_slips stage number)
mirror_is_pool stage dev number is e = subst (λ n. IsTrue (is_slips stage n)) (sym e) (mirror_is_slips stage dev is)
