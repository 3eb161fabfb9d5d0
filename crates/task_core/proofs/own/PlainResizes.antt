-- Reserves of the pools of one thread.
use Rattle.std.proofs.Common.{◌≡◌, ◌⊎◌, inl, inr, ◌<◌, ◌≤◌, ◌==◌, if◌then◌else◌, ℕ, List, get_or, set, refl, sym, ap, subst, ◌∙◌}
use Rattle.std.specs.Prelude.{IsTrue, slice_index_or}
use Rattle.std.proofs.lemmas.List.{set-get_or}
use Rattle.std.proofs.lemmas.Bool.{eq-eqb}
use Rattle.stack_base.specs.declared.ids.DevId.{DevId}
use Rattle.stack_base.specs.declared.ids.SetId.{SetId}
use Rattle.stack_base.specs.declared.ids.PoolId.{PoolId}
use Rattle.stack_base.specs.declared.ids.PoolId.TheVariants.{FsVecs, Records}
use Rattle.stack_base.specs.PoolId.{pool_number}
use Rattle.stack_base.proofs.NumberLemmas.{not_zero}
use Rattle.mempool_core.specs.Move.{resizes, after_move}
use Rattle.mempool_core.specs.Pool.{LedgerPool}
use Rattle.mempool_core.specs.Pool as pool
use Rattle.bioset_pools.specs.Sets.{bios_of}
use Rattle.task_core.specs.declared.plain.Plain.{Plain}
use Rattle.run_machine.specs.Maps.{upd}
use Rattle.task_core.specs.Tables.{look_up}
use Rattle.run_machine.specs.Requests.{Resize, OutIs}
use Rattle.run_machine.specs.Objects.{Objects, MovesPool, Serves}
use Rattle.task_steps.specs.Stage.{Stage, is_bios, is_slips, RequestFits}
use Rattle.task_core.specs.Resizing.{ResizesIfHome}
use Rattle.task_core.specs.Plains.{set_number, records_number, no_pool, by_kind, bios_at, records_at, pool_at, objects_of, stage_of, AreEntered, Holds}
use Rattle.task_core.proofs.Keeping.{set_is_bios, mirror_is_slips}
use Rattle.task_core.proofs.own.PlainLemmas.{kept_by, with_bios, with_records, with_vecs, bios_there, bios_entered, bios_move, bios_stage, records_there, records_entered, records_move, records_stage, vecs_entered, vecs_move, vecs_stage}
use Rattle.task_core.proofs.own.PlainFacts.{set_is}

-- a resize that was a move, or changed nothing, as what is served
moved_so : (old new : Objects) (n min out : ℕ) → out ≡ 0 → MovesPool old n (resizes min) new
    → new ≡ (if out == 0 then record old { pool = upd old.pool n (after_move (old.pool n) (resizes min)) } else old)
moved_so old new n min out zero move = rw (eq-eqb out 0 zero) (move.1)

stayed_so : (old new : Objects) (n min out : ℕ) → 0 < out → new ≡ old
    → new ≡ (if out == 0 then record old { pool = upd old.pool n (after_move (old.pool n) (resizes min)) } else old)
stayed_so old new n min out some same = rw (not_zero out some) same

-- an entry in its own place changes nothing
own_entry : {E : Type 0} (items : List E) (i : ℕ) (entry : E) → entry ≡ get_or items i entry → set items i entry ≡ items
own_entry items i entry value = ap (set items i) value ∙ set-get_or items i entry

-- and so the objects stay
stays : (plain new : Plain) (pool : PoolId) (min out : ℕ) → objects_of new ≡ objects_of plain
    → out ≡ (pool_at plain (pool_number pool)).state.facts.out → 0 < out
    → Serves (stage_of plain).ledger (objects_of plain) (Resize pool min) (OutIs out) (objects_of new)
stays plain new pool min out same is some = (is, stayed_so (objects_of plain) (objects_of new) (pool_number pool) min out some same)

-- what the objects and the stage are where these are the pools
abbrev seen_with : Plain → (ℕ → LedgerPool) → Objects × Stage
seen_with plain pools = (
  record (objects_of plain) { pool = λ n. (pools n).state },
  record (stage_of plain) {
    ledger = λ n. (pools n).ledger;
    most = λ n. (pools n).most;
  },
)

-- a pool of a table, and the objects with another in its place, which is the same one or what a resize makes of it
module _ (plain new : Plain) (holds : Holds plain) (of : PoolId) (min : ℕ) (fits : RequestFits (stage_of plain) (Resize of min)) (old x : LedgerPool)
    (there : old ≡ pool_at plain (pool_number of)) (entered : AreEntered new)
    (move : pool.PoolMoves old (resizes min) x → MovesPool (objects_of plain) (pool_number of) (resizes min) (objects_of new))
    (setting : pool.PoolMoves old (resizes min) x → stage_of new ≡ stage_of plain)
    (same : x ≡ old → (objects_of new ≡ objects_of plain) × (stage_of new ≡ stage_of plain)) where
  module _ (out : ℕ) (did : ResizesIfHome old min out x) where
    out_is : out ≡ (pool_at plain (pool_number of)).state.facts.out
    out_is = did.0 ∙ ap (λ (p : LedgerPool). p.state.facts.out) there

    serves_by : ((out ≡ 0) × pool.PoolMoves old (resizes min) x) ⊎ ((0 < out) × (x ≡ old))
        → Serves (stage_of plain).ledger (objects_of plain) (Resize of min) (OutIs out) (objects_of new)
    serves_by (inl (zero, moves)) = (out_is, moved_so (objects_of plain) (objects_of new) (pool_number of) min out zero (move moves))
    serves_by (inr (some, is)) = stays plain new of min out (same is).0 out_is some

    resized : Serves (stage_of plain).ledger (objects_of plain) (Resize of min) (OutIs out) (objects_of new)
    resized = serves_by did.1

    stage_is : ((out ≡ 0) × pool.PoolMoves old (resizes min) x) ⊎ ((0 < out) × (x ≡ old)) → stage_of new ≡ stage_of plain
    stage_is (inl (zero, moves)) = setting moves
    stage_is (inr (some, is)) = (same is).1

    resized_kept : Holds new × (stage_of new ≡ stage_of plain)
    resized_kept = kept_by plain new (Resize of min) (OutIs out) holds fits (stage_is did.1) entered resized

module _ (plain : Plain) (holds : Holds plain) (of : SetId) (min : ℕ) (fits : RequestFits (stage_of plain) (Resize (bios_of of) min)) (i : ℕ)
    (place : i ≡ slice_index_or plain.index.bios (pool_number (bios_of of)) 0) (entry : SetId × LedgerPool) (value : entry ≡ get_or plain.bios.items i entry) where
  abbrev number : ℕ
  number = pool_number (bios_of of)

  is : IsTrue (is_bios (stage_of plain) number)
  is = set_is_bios (stage_of plain) of (set_is (stage_of plain) of fits.0)

  there : entry.1 ≡ pool_at plain number
  there = bios_there plain holds number i is place entry value

  pub bios_within : min ≤ entry.1.most
  bios_within = subst (λ (p : LedgerPool). min ≤ p.most) (sym there) fits.2

  module _ (out : ℕ) (x : LedgerPool) (did : ResizesIfHome entry.1 min out x) where
    same : x ≡ entry.1 → (objects_of (with_bios plain i entry.0 x) ≡ objects_of plain) × (stage_of (with_bios plain i entry.0 x) ≡ stage_of plain)
    same is =
        let none : ℕ → LedgerPool = no_pool plain.stage.value.stack plain.vecs.ledger in
        let seen : List (SetId × LedgerPool) → Objects × Stage = λ items. seen_with plain (by_kind plain.vecs (look_up set_number (λ e. e.1) none items) (records_at plain)) in
        let stay : set plain.bios.items i (entry.0, x) ≡ plain.bios.items = ap (λ p. set plain.bios.items i (entry.0, p)) is ∙ own_entry plain.bios.items i entry value in
        (ap (λ items. (seen items).0) stay, ap (λ items. (seen items).1) stay)

    pub bios_resized : Serves (stage_of plain).ledger (objects_of plain) (Resize (bios_of of) min) (OutIs out) (objects_of (with_bios plain i entry.0 x))
    bios_resized =
        resized plain (with_bios plain i entry.0 x) holds (bios_of of) min fits entry.1 x there (bios_entered plain holds number i is place entry value x)
        (bios_move plain holds number i is place entry value x (resizes min)) (bios_stage plain holds number i is place entry value x (resizes min)) same out did

    pub bios_resized_kept : Holds (with_bios plain i entry.0 x) × (stage_of (with_bios plain i entry.0 x) ≡ stage_of plain)
    bios_resized_kept =
        resized_kept plain (with_bios plain i entry.0 x) holds (bios_of of) min fits entry.1 x there (bios_entered plain holds number i is place entry value x)
        (bios_move plain holds number i is place entry value x (resizes min)) (bios_stage plain holds number i is place entry value x (resizes min)) same out did

module _ (plain : Plain) (holds : Holds plain) (dev : DevId) (min : ℕ) (fits : RequestFits (stage_of plain) (Resize (Records dev) min)) (i : ℕ)
    (place : i ≡ slice_index_or plain.index.records (pool_number (Records dev)) 0) (entry : DevId × LedgerPool) (value : entry ≡ get_or plain.records.items i entry) where
  abbrev slip_number : ℕ
  slip_number = pool_number (Records dev)

  is_slip : IsTrue (is_slips (stage_of plain) slip_number)
  is_slip = mirror_is_slips (stage_of plain) dev fits.0

  slips_there : entry.1 ≡ pool_at plain slip_number
  slips_there = records_there plain holds slip_number i is_slip place entry value

  pub records_within : min ≤ entry.1.most
  records_within = subst (λ (p : LedgerPool). min ≤ p.most) (sym slips_there) fits.2

  module _ (out : ℕ) (x : LedgerPool) (did : ResizesIfHome entry.1 min out x) where
    slips_same : x ≡ entry.1 → (objects_of (with_records plain i entry.0 x) ≡ objects_of plain) × (stage_of (with_records plain i entry.0 x) ≡ stage_of plain)
    slips_same is =
        let none : ℕ → LedgerPool = no_pool plain.stage.value.stack plain.vecs.ledger in
        let seen : List (DevId × LedgerPool) → Objects × Stage = λ items. seen_with plain (by_kind plain.vecs (bios_at plain) (look_up records_number (λ e. e.1) none items)) in
        let stay : set plain.records.items i (entry.0, x) ≡ plain.records.items = ap (λ p. set plain.records.items i (entry.0, p)) is ∙ own_entry plain.records.items i entry value in
        (ap (λ items. (seen items).0) stay, ap (λ items. (seen items).1) stay)

    pub records_resized : Serves (stage_of plain).ledger (objects_of plain) (Resize (Records dev) min) (OutIs out) (objects_of (with_records plain i entry.0 x))
    records_resized =
        resized plain (with_records plain i entry.0 x) holds (Records dev) min fits entry.1 x slips_there (records_entered plain holds slip_number i is_slip place entry value x)
        (records_move plain holds slip_number i is_slip place entry value x (resizes min))
        (records_stage plain holds slip_number i is_slip place entry value x (resizes min)) slips_same out did

    pub records_resized_kept : Holds (with_records plain i entry.0 x) × (stage_of (with_records plain i entry.0 x) ≡ stage_of plain)
    records_resized_kept =
        resized_kept plain (with_records plain i entry.0 x) holds (Records dev) min fits entry.1 x slips_there (records_entered plain holds slip_number i is_slip place entry value x)
        (records_move plain holds slip_number i is_slip place entry value x (resizes min))
        (records_stage plain holds slip_number i is_slip place entry value x (resizes min)) slips_same out did

module _ (plain : Plain) (holds : Holds plain) (min : ℕ) (fits : RequestFits (stage_of plain) (Resize FsVecs min)) (out : ℕ) (x : LedgerPool)
    (did : ResizesIfHome plain.vecs min out x) where
  vecs_serve : ((out ≡ 0) × pool.PoolMoves plain.vecs (resizes min) x) ⊎ ((0 < out) × (x ≡ plain.vecs))
      → Serves (stage_of plain).ledger (objects_of plain) (Resize FsVecs min) (OutIs out) (objects_of (with_vecs plain x))
  vecs_serve (inl (zero, moves)) = (did.0, moved_so (objects_of plain) (objects_of (with_vecs plain x)) 64 min out zero (vecs_move plain x (resizes min) moves))
  vecs_serve (inr (some, same)) = stays plain (with_vecs plain x) FsVecs min out (ap (λ p. objects_of (with_vecs plain p)) same) did.0 some

  pub vecs_resized : Serves (stage_of plain).ledger (objects_of plain) (Resize FsVecs min) (OutIs out) (objects_of (with_vecs plain x))
  vecs_resized = vecs_serve did.1

  vecs_keep : ((out ≡ 0) × pool.PoolMoves plain.vecs (resizes min) x) ⊎ ((0 < out) × (x ≡ plain.vecs))
      → Holds (with_vecs plain x) × (stage_of (with_vecs plain x) ≡ stage_of plain)
  vecs_keep (inl (zero, moves)) =
      kept_by plain (with_vecs plain x) (Resize FsVecs min) (OutIs out) holds fits (vecs_stage plain x (resizes min) moves)
      (vecs_entered plain x (resizes min) moves holds) vecs_resized
  vecs_keep (inr (some, same)) =
      subst (λ p. Holds (with_vecs plain p) × (stage_of (with_vecs plain p) ≡ stage_of plain)) (sym same) (holds, refl)

  pub vecs_resized_kept : Holds (with_vecs plain x) × (stage_of (with_vecs plain x) ≡ stage_of plain)
  vecs_resized_kept = vecs_keep did.1
