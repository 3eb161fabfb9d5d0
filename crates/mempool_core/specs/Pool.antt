-- What contracts see of a pool, and how it keeps its spares.
use Rattle.std.specs.Prelude.{◌≡◌, ℕ, ◌+◌, ◌<◌, ◌≤◌, All, Result, Ok, Err, max, vec_len, vec_capacity}
use Rattle.std.specs.Global.{Box, Vec}
use Rattle.fail_script.specs.Script.{Answers, entries_of}
use Rattle.elem_ledger.specs.Ledger.{LedgerId}
use Rattle.mempool_core.specs.declared.Counts.{Counts}
use Rattle.mempool_core.specs.declared.Facts.{Facts}
use Rattle.mempool_core.specs.Facts.{AddsUp}
use Rattle.mempool_core.specs.Move.{PoolState, PoolMove, Moves}

-- a pool: the ledger that its elements are of, its state, and the most that its reserve may be
pub record LedgerPool : Type 0 where
  pub ledger : LedgerId
  pub state : PoolState
  pub most : ℕ

-- a move leads from one state of a pool to another; its elements stay of the same ledger, and its reserve may be as large as before
pub record PoolMoves (old : LedgerPool) (move : PoolMove) (new : LedgerPool) : Type 0 where
  pub moves : Moves old.state move new.state
  pub ledger : new.ledger ≡ old.ledger
  pub most : new.most ≡ old.most

-- a pool with elements laid aside, so that its reserve may be this large; nothing else tells
abbrev pub widened : ℕ → LedgerPool → LedgerPool
widened most pool = record pool { most = max pool.most most }

-- a pool with no element out ends and tells its numbers, and another is handed back as it was
abbrev pub ClosesIfHome : LedgerPool → Result Facts LedgerPool → Type 0
ClosesIfHome pool (Ok facts) = (pool.state.facts.out ≡ 0) × (facts ≡ pool.state.facts)
ClosesIfHome pool (Err back) = (0 < pool.state.facts.out) × (back ≡ pool)

-- the state with so many spares and elements out
abbrev pub state_with : Answers → Counts → ℕ → ℕ → PoolState
state_with script counts spares out = record {
  script = script;
  facts = record {
    min = counts.min;
    spares = spares;
    out = out;
    live = counts.live;
    pos = counts.pos;
    ordinary = counts.ordinary;
    spare = counts.spare;
  };
}

-- the pool adds up; so many of its bodies are laid aside, and the others are its spares; all are clear, and there is room for the
-- reserve beside those laid aside, so that keeping a spare takes no memory
pub record IsSoundPool {P : Type 0} (is_clear : P → Type 0) (state : PoolState) (aside : ℕ) (bodies : Vec (Box P)) : Type 0 where
  pub adds_up : AddsUp state.facts
  pub spares : state.facts.spares + aside ≡ vec_len bodies
  pub room : state.facts.min + aside ≤ vec_capacity bodies
  pub within : state.facts.pos ≤ entries_of state.script
  pub clear : All (λ body. is_clear body.value) bodies.items
