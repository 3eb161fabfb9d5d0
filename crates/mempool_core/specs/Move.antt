-- What a pool can do, and how each move changes it. No body is named here, so a larger machine can cite it.
use Rattle.std.specs.Prelude.{◌≡◌, ℕ, ◌+◌, ◌-◌, ◌^◌, ◌<◌, ◌⊎◌, Bool, IsTrue, nat_lt, if◌then◌else◌}
use Rattle.fail_script.specs.Script.{Answers}
use Rattle.mempool_core.specs.declared.Facts.{Facts}
use Rattle.fail_script.specs.Script.{allows_at}
use Rattle.mempool_core.specs.Position.{uses_entry, next_pos}
use Rattle.mempool_core.specs.Facts.{saturating_next}

-- a pool as plain data: its script and its numbers
pub record PoolState : Type 0 where
  pub script : Answers
  pub facts : Facts

pub data PoolMove : Type 0 where
  -- a take has an element of ordinary memory
  takes_ordinary : PoolMove
  -- a take has a spare
  takes_spare : PoolMove
  -- a take has neither; whether it used up an entry of the script
  misses : (used : Bool) → PoolMove
  -- an element is given back
  gives : PoolMove
  -- the reserve is set to another number
  resizes : (min : ℕ) → PoolMove

-- a pool as it is opened
abbrev pub opened : ℕ → Answers → PoolState
opened min script = record {
  script = script;
  facts = record { min = min; spares = min; out = 0; live = 0; pos = 0; ordinary = 0; spare = 0 };
}

-- after a take that had ordinary memory
abbrev pub took_ordinary : PoolState → PoolState
took_ordinary pool = record pool {
  facts = record pool.facts {
    out = pool.facts.out + 1;
    live = pool.facts.live + 1;
    pos = next_pos pool.script pool.facts.pos;
    ordinary = saturating_next pool.facts.ordinary;
  };
}

-- after a take that had a spare
abbrev pub took_spare : PoolState → PoolState
took_spare pool = record pool {
  facts = record pool.facts {
    spares = pool.facts.spares - 1;
    out = pool.facts.out + 1;
    pos = next_pos pool.script pool.facts.pos;
    spare = saturating_next pool.facts.spare;
  };
}

-- after a take that missed
abbrev pub missed : PoolState → PoolState
missed pool = record pool { facts = record pool.facts { pos = next_pos pool.script pool.facts.pos } }

-- whether an element that is given back becomes a spare
abbrev pub keeps_spare : PoolState → Bool
keeps_spare pool = nat_lt pool.facts.spares pool.facts.min

-- after an element was given back: one more spare while there are fewer than min, and else one less live
abbrev pub was_given : PoolState → PoolState
was_given pool = record pool {
  facts = record pool.facts {
    spares = (if keeps_spare pool then pool.facts.spares + 1 else pool.facts.spares);
    out = pool.facts.out - 1;
    live = (if keeps_spare pool then pool.facts.live else pool.facts.live - 1);
  };
}

-- after the reserve was set to another number: all of it lies in the pool
abbrev pub was_resized : ℕ → PoolState → PoolState
was_resized min pool = record pool { facts = record pool.facts { min = min; spares = min } }

-- after a move
abbrev pub after_move : PoolState → PoolMove → PoolState
after_move pool takes_ordinary = took_ordinary pool
after_move pool takes_spare = took_spare pool
after_move pool (misses used) = missed pool
after_move pool gives = was_given pool
after_move pool (resizes min) = was_resized min pool

-- one more element can be out
abbrev pub HasRoom : PoolState → Type 0
HasRoom pool = pool.facts.out < 2 ^ 64 - 1

-- when a move can come
abbrev pub CanMove : PoolState → PoolMove → Type 0
CanMove pool takes_ordinary = IsTrue (allows_at pool.script pool.facts.pos) × HasRoom pool
CanMove pool takes_spare = (0 < pool.facts.spares) × HasRoom pool
CanMove pool (misses used) =
    ((pool.facts.spares ≡ 0) ⊎ (pool.facts.out ≡ 2 ^ 64 - 1)) × (used ≡ uses_entry pool.script pool.facts.pos)
CanMove pool gives = 0 < pool.facts.out
CanMove pool (resizes min) = pool.facts.out ≡ 0

-- a move leads from one state of a pool to another
pub record Moves (old : PoolState) (move : PoolMove) (new : PoolState) : Type 0 where
  pub can : CanMove old move
  pub after : new ≡ after_move old move
