-- Gives to the objects of one thread.
use Rattle.std.proofs.Common.{◌≡◌, ◌==◌, ℕ, true, get_or, sym, ap, subst, ◌∙◌, arith}
use Rattle.std.proofs.lemmas.Bool.Decides.{nat_tests}
use Rattle.std.specs.Prelude.{slice_index_or}
use Rattle.stack_base.specs.declared.ids.DevId.{DevId}
use Rattle.stack_base.specs.declared.ids.SetId.{SetId}
use Rattle.mempool_core.specs.Move.{gives}
use Rattle.mempool_core.specs.Pool.{LedgerPool}
use Rattle.mempool_core.specs.Pool as pool
use Rattle.bio_records.specs.declared.bio.Pad.{Pad}
use Rattle.bio_records.specs.Items.{Item}
use Rattle.bio_books.specs.Books.{VectorItem, SlipItem}
use Rattle.task_core.specs.declared.plain.Plain.{Plain}
use Rattle.run_machine.specs.Requests.{GiveBio, GiveVec, GiveSlip, Did}
use Rattle.run_machine.specs.Objects.{MovesPool, Serves}
use Rattle.task_steps.specs.Stage.{is_bios, is_vecs, is_slips, IsHome}
use Rattle.task_core.specs.Plains.{pool_at, objects_of, stage_of, Holds}
use Rattle.task_core.proofs.own.PlainLemmas.{kept_by, with_bios, with_records, with_vecs, bios_there, bios_entered, bios_move, bios_stage, records_there, records_entered, records_move, records_stage, vecs_entered, vecs_move, vecs_stage}

module _ (plain : Plain) (holds : Holds plain) (bio : Item Pad) (fits : IsHome (stage_of plain) is_bios bio.share) (i : ℕ)
    (place : i ≡ slice_index_or plain.index.bios bio.share.no 0) (entry : SetId × LedgerPool) (value : entry ≡ get_or plain.bios.items i entry) where
  -- it goes to the pool that it is of
  pub bio_goes_home : bio.share ≡ entry.1.ledger
  bio_goes_home = fits.ledger ∙ ap (λ (p : LedgerPool). p.ledger) (sym (bios_there plain holds bio.share.no i fits.kind place entry value))

  module _ (x : LedgerPool) (moves : pool.PoolMoves entry.1 gives x) where
    pub bio_given : Serves (stage_of plain).ledger (objects_of plain) (GiveBio bio) Did (objects_of (with_bios plain i entry.0 x))
    bio_given = bios_move plain holds bio.share.no i fits.kind place entry value x gives moves

    pub bio_given_kept : Holds (with_bios plain i entry.0 x) × (stage_of (with_bios plain i entry.0 x) ≡ stage_of plain)
    bio_given_kept =
        kept_by plain (with_bios plain i entry.0 x) (GiveBio bio) Did holds fits
        (bios_stage plain holds bio.share.no i fits.kind place entry value x gives moves)
        (bios_entered plain holds bio.share.no i fits.kind place entry value x) bio_given

module _ (plain : Plain) (holds : Holds plain) (slip : SlipItem) (fits : IsHome (stage_of plain) is_slips slip.share) (i : ℕ)
    (place : i ≡ slice_index_or plain.index.records slip.share.no 0) (entry : DevId × LedgerPool) (value : entry ≡ get_or plain.records.items i entry) where
  pub slip_goes_home : slip.share ≡ entry.1.ledger
  slip_goes_home = fits.ledger ∙ ap (λ (p : LedgerPool). p.ledger) (sym (records_there plain holds slip.share.no i fits.kind place entry value))

  module _ (x : LedgerPool) (moves : pool.PoolMoves entry.1 gives x) where
    pub slip_given : Serves (stage_of plain).ledger (objects_of plain) (GiveSlip slip) Did (objects_of (with_records plain i entry.0 x))
    slip_given = records_move plain holds slip.share.no i fits.kind place entry value x gives moves

    pub slip_given_kept : Holds (with_records plain i entry.0 x) × (stage_of (with_records plain i entry.0 x) ≡ stage_of plain)
    slip_given_kept =
        kept_by plain (with_records plain i entry.0 x) (GiveSlip slip) Did holds fits
        (records_stage plain holds slip.share.no i fits.kind place entry value x gives moves)
        (records_entered plain holds slip.share.no i fits.kind place entry value x) slip_given

is_64 : (n : ℕ) → (n == 64) ≡ true → n ≡ 64
is_64 n e = grind (arith, nat_tests)

module _ (plain : Plain) (holds : Holds plain) (vector : VectorItem) (fits : IsHome (stage_of plain) is_vecs vector.share) where
  numbered : vector.share.no ≡ 64
  numbered = is_64 vector.share.no fits.kind

  pub vec_goes_home : vector.share ≡ plain.vecs.ledger
  vec_goes_home = fits.ledger ∙ ap (λ n. (pool_at plain n).ledger) numbered

  module _ (x : LedgerPool) (moves : pool.PoolMoves plain.vecs gives x) where
    pub vec_given : Serves (stage_of plain).ledger (objects_of plain) (GiveVec vector) Did (objects_of (with_vecs plain x))
    vec_given = subst (λ n. MovesPool (objects_of plain) n gives (objects_of (with_vecs plain x))) (sym numbered) (vecs_move plain x gives moves)

    pub vec_given_kept : Holds (with_vecs plain x) × (stage_of (with_vecs plain x) ≡ stage_of plain)
    vec_given_kept =
        kept_by plain (with_vecs plain x) (GiveVec vector) Did holds fits (vecs_stage plain x gives moves) (vecs_entered plain x gives moves holds) vec_given
