-- The entries that are left of the scripts of pools: a take uses one up, or none.
use Rattle.std.proofs.Common.{◌≡◌, ◌+◌, ◌<◌, ◌≤◌, if◌then◌else◌, ℕ, Bool, true, false, length, inl, inr, sym, ◌∙◌, ap, arith}
use Rattle.std.proofs.lemmas.Bool.Decides.{nat_tests}
use Rattle.mempool_core.specs.Move.{PoolState, PoolMove, after_move, takes_ordinary, takes_spare, misses, gives, resizes}
use Rattle.bio_books.specs.Books.{told}
use Rattle.run_machine.specs.Maps.{upd}
use Rattle.block_core.specs.Weights.{sum_at}
use Rattle.block_core.specs.Charges.{entries_left}
use Rattle.block_core.proofs.moves.Sums.{sum_at-upd, sum_at-other, below_or}
use Rattle.mempool_core.specs.Position.{uses_entry, next_pos}

-- the entries that are left of a pool's script
next_up : (pool : PoolState) → pool.facts.pos ≤ next_pos pool.script pool.facts.pos
next_up pool = elim (uses_entry pool.script pool.facts.pos) as (λ v. pool.facts.pos ≤ (if v then pool.facts.pos + 1 else pool.facts.pos)) [ true ↦ omega arith | false ↦ omega arith ]

pool_left : (pool : PoolState) (move : PoolMove) → entries_left (after_move pool move) ≤ entries_left pool
pool_left pool takes_ordinary = omega (arith, next_up pool)
pool_left pool takes_spare = omega (arith, next_up pool)
pool_left pool (misses used) = omega (arith, next_up pool)
pool_left pool gives = omega arith
pool_left pool (resizes min) = omega arith

pool_used : (pool : PoolState) (used : Bool) → used ≡ uses_entry pool.script pool.facts.pos → used ≡ true → entries_left (after_move pool (misses used)) + 1 ≤ entries_left pool
pool_used pool used same told =
    let is : uses_entry pool.script pool.facts.pos ≡ true = sym same ∙ told in
    let lt : pool.facts.pos < length pool.script.entries = grind (arith, nat_tests, is) in
    let next : next_pos pool.script pool.facts.pos ≡ pool.facts.pos + 1 = ap (λ (v : Bool). if v then pool.facts.pos + 1 else pool.facts.pos) is in
    omega (arith, lt, next)

abbrev pub all_entries : (ℕ → PoolState) → ℕ
all_entries pools = sum_at (λ number pool. entries_left pool) 66 pools

pub pools_left : (pools : ℕ → PoolState) (number : ℕ) (move : PoolMove) → all_entries (upd pools number (after_move (pools number) move)) ≤ all_entries pools
pools_left pools number move = elim (below_or number 66) [
  | inl lt ↦ omega (arith, sum_at-upd (λ number pool. entries_left pool) 66 pools number (after_move (pools number) move) lt, pool_left (pools number) move)
  | inr ge ↦ omega (arith, sum_at-other (λ number pool. entries_left pool) 66 pools number (after_move (pools number) move) ge)
]

pub pools_used : (pools : ℕ → PoolState) (number : ℕ) (used : Bool) → number < 66 → used ≡ uses_entry (pools number).script (pools number).facts.pos → used ≡ true
    → all_entries (upd pools number (after_move (pools number) (misses used))) + 1 ≤ all_entries pools
pools_used pools number used lt same told =
    omega (arith, sum_at-upd (λ number pool. entries_left pool) 66 pools number (after_move (pools number) (misses used)) lt, pool_used (pools number) used same told)
