-- How plain elements name ledgers.
use Rattle.std.specs.Prelude.{ℕ, []}
use Rattle.atomic_table.specs.Seated.{TableId}
use Rattle.elem_ledger.specs.Ledger.{LedgerId}

-- no table
abbrev pub no_table : TableId
no_table = record { words = 0; slots = 0; views_name = 0; atom = 0; block = 0; offset = 0; slot_names = [] }

-- The ledger that stands for that of the pool of this number. No event names a ledger, so any name serves that tells the pool.
abbrev pub ledger_of : ℕ → LedgerId
ledger_of number = record { table = no_table; no = number }
