-- What contracts see of a ledger and of a share.
use Rattle.std.specs.Prelude.{ℕ}
use Rattle.atomic_table.specs.Seated.{TableId}

-- which ledger: its number, and its table, which no other ledger has
pub record LedgerId : Type 0 where
  pub table : TableId
  pub no : ℕ

-- a ledger, and how many of its shares are out
pub record Account : Type 0 where
  pub id : LedgerId
  pub total : ℕ
