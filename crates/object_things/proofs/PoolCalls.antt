-- Calls of a pool by its name.
use Rattle.std.proofs.Common.{◌≡◌, ◌&&◌, Bool, true, false, not, Ok, inl, inr, refl, sym, ap, subst}
use Rattle.elem_ledger.specs.Ledger.{LedgerId}
use Rattle.stack_base.specs.declared.ids.PoolId.{PoolId}
use Rattle.stack_base.specs.declared.ids.PoolId.TheVariants.{FsBios, FsVecs, Bios, Records}
use Rattle.mempool_core.specs.Move.{misses, gives}
use Rattle.mempool_core.specs.Pool.{LedgerPool, PoolMoves}
use Rattle.mempool_core.specs.Taken.{TakeOf}
use Rattle.mempool_core.specs.declared.Taken.{Taken}
use Rattle.mempool_core.specs.declared.Taken.TheVariants.{Ordinary, Spare, Miss}
use Rattle.run_machine.specs.Requests.{Did, Missed, NoTicket}
use Rattle.run_machine.specs.Objects.{clear_bio, clear_vector, clear_slip}
use Rattle.run_machine.specs.declared.event.Got.TheVariants as got
use Rattle.object_things.specs.Stamps.{StampState, ThingState, FindsNone, thing_state}
use Rattle.object_things.specs.Pools.{PoolServes, PoolLooks, TakeFindsNone, TookFrom, GoesBack, Undone, WaitsAt, take_request, give_of, took, is_look}

told_so : (waits used : Bool) → (waits && not used) ≡ false → waits ≡ true → used ≡ true
told_so true true e h = refl
told_so true false e h = absurd (cc e)
told_so false used e h = absurd (cc h)

module _ {P : Type 0} (is_clear : P → Type 0) where
  pub took_served : (name : PoolId) (waits : Bool) (old new : LedgerPool) (taken : Taken P) → WaitsAt name waits → is_look waits taken ≡ false → TakeOf is_clear old taken new
      → PoolServes old (take_request name waits) (took name (Ok taken)) new
  -- bios, of the file system and of devices
  took_served FsBios waits old new (Ordinary el) w told takes = (takes.0, ap clear_bio takes.1.share)
  took_served FsBios waits old new (Spare el) w told takes = (takes.0, ap clear_bio takes.1.share)
  took_served FsBios waits old new (Miss used) w told takes = (takes, told_so waits used told)
  took_served (Bios dev) waits old new (Ordinary el) w told takes = (takes.0, ap clear_bio takes.1.share)
  took_served (Bios dev) waits old new (Spare el) w told takes = (takes.0, ap clear_bio takes.1.share)
  took_served (Bios dev) waits old new (Miss used) w told takes = (takes, told_so waits used told)
  -- vectors
  took_served FsVecs waits old new (Ordinary el) w told takes = (takes.0, ap clear_vector takes.1.share)
  took_served FsVecs waits old new (Spare el) w told takes = (takes.0, ap clear_vector takes.1.share)
  took_served FsVecs waits old new (Miss used) w told takes = (takes, λ h. told_so waits used told w)
  -- records
  took_served (Records dev) waits old new (Ordinary el) w told takes = (takes.0, ap clear_slip takes.1.share)
  took_served (Records dev) waits old new (Spare el) w told takes = (takes.0, ap clear_slip takes.1.share)
  took_served (Records dev) waits old new (Miss used) w told takes = (takes, λ h. told_so waits used told w)

  looks_at : (waits used : Bool) → (waits && not used) ≡ true → (waits ≡ true) × (used ≡ false)
  looks_at true false e = (refl, refl)
  looks_at true true e = absurd (cc e)
  looks_at false used e = absurd (cc e)

  looks_by : (name : PoolId) (waits used : Bool) (old new : LedgerPool) (stamp : StampState) → WaitsAt name waits → (waits ≡ true) × (used ≡ false) → PoolMoves old (misses used) new
      → PoolLooks (thing_state old stamp) (take_request name waits) (Missed false) (thing_state new stamp)
  looks_by FsBios waits used old new stamp w told moves = (told.0, refl, subst (λ u. PoolMoves old (misses u) new) told.1 moves, refl)
  looks_by (Bios dev) waits used old new stamp w told moves = (told.0, refl, subst (λ u. PoolMoves old (misses u) new) told.1 moves, refl)
  looks_by FsVecs waits used old new stamp w told moves = (refl, refl, subst (λ u. PoolMoves old (misses u) new) told.1 moves, refl)
  looks_by (Records dev) waits used old new stamp w told moves = (refl, refl, subst (λ u. PoolMoves old (misses u) new) told.1 moves, refl)

  pub miss_looks : (name : PoolId) (waits : Bool) (old new : LedgerPool) (stamp : StampState) (taken : Taken P) → WaitsAt name waits → is_look waits taken ≡ true → TakeOf is_clear old taken new
      → PoolLooks (thing_state old stamp) (take_request name waits) (Missed false) (thing_state new stamp)
  miss_looks name waits old new stamp (Ordinary el) w look takes = absurd (cc look)
  miss_looks name waits old new stamp (Spare el) w look takes = absurd (cc look)
  miss_looks name waits old new stamp (Miss used) w look takes = looks_by name waits used old new stamp w (looks_at waits used look) takes

  pub undone : (waits : Bool) (old between new : LedgerPool) (taken : Taken P) → is_look waits taken ≡ false → TakeOf is_clear old taken between
      → GoesBack taken between new → Undone waits old new
  undone waits old between new (Ordinary el) told takes back = inr (got.Ordinary, between, takes.0, back)
  undone waits old between new (Spare el) told takes back = inr (got.Spare, between, takes.0, back)
  undone waits old between new (Miss used) told takes back = inl (used, (subst (PoolMoves old (misses used)) (sym back) takes, told_so waits used told))

  pub took_from : (old new : LedgerPool) (taken : Taken P) → TakeOf is_clear old taken new → TookFrom is_clear old.ledger (Ok taken)
  took_from old new (Ordinary el) takes = takes.1
  took_from old new (Spare el) takes = takes.1
  took_from old new (Miss used) takes = tt

  pub take_stays : (old new : LedgerPool) (taken : Taken P) → TakeOf is_clear old taken new → (new.ledger ≡ old.ledger) × (new.most ≡ old.most)
  take_stays old new (Ordinary el) takes = (takes.0.ledger, takes.0.most)
  take_stays old new (Spare el) takes = (takes.0.ledger, takes.0.most)
  take_stays old new (Miss used) takes = (takes.ledger, takes.most)

pub take_spent : (name : PoolId) (waits : Bool) (old new : ThingState LedgerPool) → WaitsAt name waits → TakeFindsNone waits old new
    → PoolLooks old (take_request name waits) NoTicket new
take_spent FsBios waits old new w none = none
take_spent (Bios dev) waits old new w none = none
take_spent FsVecs waits old new w none = subst (λ b. TakeFindsNone b old new) w none
take_spent (Records dev) waits old new w none = subst (λ b. TakeFindsNone b old new) w none

pub give_served : (name : PoolId) (share : LedgerId) (old new : LedgerPool) → PoolMoves old gives new → share ≡ old.ledger → PoolServes old (give_of name share) Did new
give_served FsBios share old new moves own = (moves, own)
give_served (Bios dev) share old new moves own = (moves, own)
give_served FsVecs share old new moves own = (moves, own)
give_served (Records dev) share old new moves own = (moves, own)

pub give_spent : (name : PoolId) (share : LedgerId) (old new : ThingState LedgerPool) → FindsNone old new → PoolLooks old (give_of name share) NoTicket new
give_spent FsBios share old new none = none
give_spent (Bios dev) share old new none = none
give_spent FsVecs share old new none = none
give_spent (Records dev) share old new none = none
