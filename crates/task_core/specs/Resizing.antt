-- What calls of one object need and do.
use Rattle.std.specs.Prelude.{◌≡◌, ◌⊎◌, ◌<◌, ◌≤◌, ℕ}
use Rattle.mempool_core.specs.Move.{resizes}
use Rattle.mempool_core.specs.Pool.{LedgerPool, PoolMoves}
use Rattle.run_machine.specs.Requests.{Opening, Write, Chain, Master, Leg}

-- what was out of a pool, and its reserve, which changes where nothing was
abbrev pub ResizesIfHome : LedgerPool → ℕ → ℕ → LedgerPool → Type 0
ResizesIfHome old min out new =
    (out ≡ old.state.facts.out) × (((out ≡ 0) × PoolMoves old (resizes min) new) ⊎ ((0 < out) × (new ≡ old)))

-- a bio that a mirror copies has a leg
abbrev pub HasLegs : Opening → Type 0
HasLegs (Write write vector) = Unit {0}
HasLegs (Chain parent) = Unit {0}
HasLegs (Master parent part slip legs) = 1 ≤ legs
HasLegs (Leg master) = Unit {0}
