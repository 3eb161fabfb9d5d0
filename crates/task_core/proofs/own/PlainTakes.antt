-- Takes of the objects of one thread.
use Rattle.std.proofs.Common.{◌≡◌, ℕ, Bool, get_or, subst}
use Rattle.std.specs.Prelude.{IsTrue, Ok, slice_index_or}
use Rattle.elem_ledger.specs.declared.element.Element.{Element}
use Rattle.elem_ledger.specs.Ledger.{LedgerId}
use Rattle.stack_base.specs.declared.ids.DevId.{DevId}
use Rattle.stack_base.specs.declared.ids.PoolId.TheVariants.{Records}
use Rattle.stack_base.specs.declared.ids.SetId.{SetId}
use Rattle.stack_base.specs.PoolId.{pool_number}
use Rattle.mempool_core.specs.declared.Taken.{Taken}
use Rattle.mempool_core.specs.declared.Taken.TheVariants as taken
use Rattle.mempool_core.specs.Taken.{TakeOf, IsHandedOut}
use Rattle.mempool_core.specs.Move.{takes_ordinary, takes_spare, misses}
use Rattle.mempool_core.specs.Pool.{LedgerPool}
use Rattle.bio_records.specs.declared.bio.Pad.{Pad}
use Rattle.bio_records.specs.declared.bio.Slip.{Slip}
use Rattle.bio_records.specs.declared.body.BioBody.{BioBody}
use Rattle.bio_records.specs.declared.segment.Vector.{Vector}
use Rattle.bio_records.specs.Clear.{IsClearBody, IsClearVector, IsClearSlip}
use Rattle.bio_records.specs.Items.{item_of}
use Rattle.bioset_pools.specs.Sets.{bios_of}
use Rattle.bio_books.specs.Views.{slip_item}
use Rattle.task_core.specs.declared.plain.Plain.{Plain}
use Rattle.run_machine.specs.Requests.{TakeBio, TakeVec, TakeSlip}
use Rattle.run_machine.specs.Objects.{Serves, clear_bio, clear_vector, clear_slip}
use Rattle.task_steps.specs.Stage.{is_set, has_mirror, is_bios, is_slips, Owes}
use Rattle.task_steps.specs.Views.{took_bio, took_vec, took_slip, vec_item}
use Rattle.task_core.specs.Plains.{objects_of, stage_of, Holds}
use Rattle.task_core.proofs.Keeping.{set_is_bios, mirror_is_slips}
use Rattle.task_core.proofs.own.PlainLemmas.{kept_by, owed_by, take_moves, with_bios, with_records, with_vecs, bios_there, bios_entered, bios_move, bios_stage, records_there, records_entered, records_move, records_stage, vecs_entered, vecs_move, vecs_stage}

-- an element as its pool hands it out is a clear one
pub clear_bio_is : (ledger : LedgerId) (element : Element (BioBody Pad)) → IsHandedOut IsClearBody ledger element → item_of element ≡ clear_bio ledger
clear_bio_is ledger element out = λ k. record { pad = out.clear.pad k; bio = out.clear.bio k; short = out.clear.short k; share = out.share k }

module _ (plain : Plain) (holds : Holds plain) (set : SetId) (waits : Bool) (fits : IsTrue (is_set (stage_of plain) set)) (i : ℕ)
    (place : i ≡ slice_index_or plain.index.bios (pool_number (bios_of set)) 0) (entry : SetId × LedgerPool) (value : entry ≡ get_or plain.bios.items i entry) where
  abbrev number : ℕ
  number = pool_number (bios_of set)

  is : IsTrue (is_bios (stage_of plain) number)
  is = set_is_bios (stage_of plain) set fits

  handed : (element : Element (BioBody Pad)) → IsHandedOut IsClearBody entry.1.ledger element → item_of element ≡ clear_bio ((stage_of plain).ledger number)
  handed element out =
      clear_bio_is ((stage_of plain).ledger number) element
      (subst (λ (p : LedgerPool). IsHandedOut IsClearBody p.ledger element) (bios_there plain holds number i is place entry value) out)

  serves : (result : Taken (BioBody Pad)) (x : LedgerPool) → TakeOf IsClearBody entry.1 result x
      → Serves (stage_of plain).ledger (objects_of plain) (TakeBio set waits) (took_bio (Ok result)) (objects_of (with_bios plain i entry.0 x))
  serves (taken.Ordinary element) x takes =
      (bios_move plain holds number i is place entry value x takes_ordinary takes.0, handed element takes.1)
  serves (taken.Spare element) x takes = (bios_move plain holds number i is place entry value x takes_spare takes.0, handed element takes.1)
  serves (taken.Miss used) x takes = bios_move plain holds number i is place entry value x (misses used) takes

  module _ (result : Taken (BioBody Pad)) (x : LedgerPool) (takes : TakeOf IsClearBody entry.1 result x) where
    pub bio_served : Serves (stage_of plain).ledger (objects_of plain) (TakeBio set waits) (took_bio (Ok result)) (objects_of (with_bios plain i entry.0 x))
    bio_served = serves result x takes

    pub bio_owed : Owes (stage_of plain) (TakeBio set waits) (took_bio (Ok result))
    bio_owed = owed_by plain (with_bios plain i entry.0 x) (TakeBio set waits) (took_bio (Ok result)) holds fits bio_served

    pub bio_kept : Holds (with_bios plain i entry.0 x) × (stage_of (with_bios plain i entry.0 x) ≡ stage_of plain)
    bio_kept =
        let move = take_moves IsClearBody entry.1 x result takes in
        kept_by plain (with_bios plain i entry.0 x) (TakeBio set waits) (took_bio (Ok result)) holds fits
        (bios_stage plain holds number i is place entry value x move.0 move.1) (bios_entered plain holds number i is place entry value x) bio_served

pub clear_slip_is : (ledger : LedgerId) (element : Element Slip) → IsHandedOut IsClearSlip ledger element → slip_item element ≡ clear_slip ledger
clear_slip_is ledger element out = λ k. record { legs = (out.clear k).legs; share = out.share k }

module _ (plain : Plain) (holds : Holds plain) (dev : DevId) (fits : IsTrue (has_mirror (stage_of plain) dev)) (i : ℕ)
    (place : i ≡ slice_index_or plain.index.records (pool_number (Records dev)) 0) (entry : DevId × LedgerPool) (value : entry ≡ get_or plain.records.items i entry) where
  abbrev slip_number : ℕ
  slip_number = pool_number (Records dev)

  is_slip : IsTrue (is_slips (stage_of plain) slip_number)
  is_slip = mirror_is_slips (stage_of plain) dev fits

  handed_slip : (element : Element Slip) → IsHandedOut IsClearSlip entry.1.ledger element → slip_item element ≡ clear_slip ((stage_of plain).ledger slip_number)
  handed_slip element out =
      clear_slip_is ((stage_of plain).ledger slip_number) element
      (subst (λ (p : LedgerPool). IsHandedOut IsClearSlip p.ledger element) (records_there plain holds slip_number i is_slip place entry value) out)

  serves_slip : (result : Taken Slip) (x : LedgerPool) → TakeOf IsClearSlip entry.1 result x
      → Serves (stage_of plain).ledger (objects_of plain) (TakeSlip dev) (took_slip (Ok result)) (objects_of (with_records plain i entry.0 x))
  serves_slip (taken.Ordinary element) x takes =
      (records_move plain holds slip_number i is_slip place entry value x takes_ordinary takes.0, handed_slip element takes.1)
  serves_slip (taken.Spare element) x takes =
      (records_move plain holds slip_number i is_slip place entry value x takes_spare takes.0, handed_slip element takes.1)
  serves_slip (taken.Miss used) x takes = records_move plain holds slip_number i is_slip place entry value x (misses used) takes

  module _ (result : Taken Slip) (x : LedgerPool) (takes : TakeOf IsClearSlip entry.1 result x) where
    pub slip_served : Serves (stage_of plain).ledger (objects_of plain) (TakeSlip dev) (took_slip (Ok result)) (objects_of (with_records plain i entry.0 x))
    slip_served = serves_slip result x takes

    pub slip_owed : Owes (stage_of plain) (TakeSlip dev) (took_slip (Ok result))
    slip_owed = owed_by plain (with_records plain i entry.0 x) (TakeSlip dev) (took_slip (Ok result)) holds fits slip_served

    pub slip_kept : Holds (with_records plain i entry.0 x) × (stage_of (with_records plain i entry.0 x) ≡ stage_of plain)
    slip_kept =
        let move = take_moves IsClearSlip entry.1 x result takes in
        kept_by plain (with_records plain i entry.0 x) (TakeSlip dev) (took_slip (Ok result)) holds fits
        (records_stage plain holds slip_number i is_slip place entry value x move.0 move.1)
        (records_entered plain holds slip_number i is_slip place entry value x) slip_served

pub clear_vector_is : (ledger : LedgerId) (element : Element Vector) → IsHandedOut IsClearVector ledger element → vec_item element ≡ clear_vector ledger
clear_vector_is ledger element out = λ k. record { segments = out.clear k; share = out.share k }

module _ (plain : Plain) (holds : Holds plain) where
  serves_vec : (result : Taken Vector) (x : LedgerPool) → TakeOf IsClearVector plain.vecs result x
      → Serves (stage_of plain).ledger (objects_of plain) TakeVec (took_vec (Ok result)) (objects_of (with_vecs plain x))
  serves_vec (taken.Ordinary element) x takes = (vecs_move plain x takes_ordinary takes.0, clear_vector_is plain.vecs.ledger element takes.1)
  serves_vec (taken.Spare element) x takes = (vecs_move plain x takes_spare takes.0, clear_vector_is plain.vecs.ledger element takes.1)
  serves_vec (taken.Miss used) x takes = vecs_move plain x (misses used) takes

  module _ (result : Taken Vector) (x : LedgerPool) (takes : TakeOf IsClearVector plain.vecs result x) where
    pub vec_served : Serves (stage_of plain).ledger (objects_of plain) TakeVec (took_vec (Ok result)) (objects_of (with_vecs plain x))
    vec_served = serves_vec result x takes

    pub vec_owed : Owes (stage_of plain) TakeVec (took_vec (Ok result))
    vec_owed = owed_by plain (with_vecs plain x) TakeVec (took_vec (Ok result)) holds tt vec_served

    pub vec_kept : Holds (with_vecs plain x) × (stage_of (with_vecs plain x) ≡ stage_of plain)
    vec_kept =
        let move = take_moves IsClearVector plain.vecs x result takes in
        kept_by plain (with_vecs plain x) TakeVec (took_vec (Ok result)) holds tt (vecs_stage plain x move.0 move.1)
        (vecs_entered plain x move.0 move.1 holds) vec_served
