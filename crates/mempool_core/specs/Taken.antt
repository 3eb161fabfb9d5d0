-- What a take had.
use Rattle.std.specs.Prelude.{◌≡◌}
use Rattle.elem_ledger.specs.Ledger.{LedgerId}
use Rattle.elem_ledger.specs.declared.element.Element.{Element}
use Rattle.mempool_core.specs.declared.Taken.{Taken}
use Rattle.mempool_core.specs.declared.Taken.TheVariants.{Ordinary, Spare, Miss}
use Rattle.mempool_core.specs.Move.{takes_ordinary, takes_spare, misses}
use Rattle.mempool_core.specs.Pool.{LedgerPool, PoolMoves}

-- an element as the pool of this ledger hands it out
pub record IsHandedOut {P : Type 0} (is_clear : P → Type 0) (ledger : LedgerId) (element : Element P) : Type 0 where
  pub share : element.share ≡ ledger
  pub clear : is_clear element.body.value

-- a take that had this led from one state of the pool to another
abbrev pub TakeOf : {P : Type 0} → (P → Type 0) → LedgerPool → Taken P → LedgerPool → Type 0
TakeOf is_clear old (Ordinary element) new = PoolMoves old takes_ordinary new × IsHandedOut is_clear old.ledger element
TakeOf is_clear old (Spare element) new = PoolMoves old takes_spare new × IsHandedOut is_clear old.ledger element
TakeOf is_clear old (Miss used) new = PoolMoves old (misses used) new
