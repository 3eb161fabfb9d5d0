-- What is always true of the numbers of a pool.
use Rattle.std.specs.Prelude.{◌≡◌, ℕ, ◌+◌, ◌-◌, ◌^◌, ◌≤◌, min}
use Rattle.mempool_core.specs.declared.Facts.{Facts}

-- each element is a spare or out, and it was made at the opening or had of ordinary memory since
pub record AddsUp (facts : Facts) : Type 0 where
  pub elements : facts.spares + facts.out ≡ facts.min + facts.live
  pub spares : facts.spares ≤ facts.min

-- a count and one more, which stays at the largest number of 64 bits
abbrev pub saturating_next : ℕ → ℕ
saturating_next count = min (count + 1) (2 ^ 64 - 1)
