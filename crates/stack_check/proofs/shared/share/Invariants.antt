use Rattle.std.proofs.Common.{◌≡◌, ◌<◌, ◌≤◌, ℕ, map, take, drop}
use Rattle.std.specs.Prelude.{All, find}
use Rattle.stack_base.specs.PoolId.{pool_number}
use Rattle.stack_base.specs.declared.ids.PoolId.{PoolId}
use Rattle.decl_text.specs.Known.{Scripted}
use Rattle.decl_text.specs.Checks.{is_of_pool}
use Rattle.stack_check.specs.Finish.{script_among}
use Rattle.stack_check.proofs.PoolLemmas.{IsFalling}
use Rattle.stack_check.proofs.shared.share.Given as goal

abbrev pub invariant-loop-pool : goal.invariant-loop-pool
invariant-loop-pool l = record {
  done : l.shared.items ≡ map (λ (pool : PoolId). (pool, script_among l.initial.given.items l.tail pool)) (take l.pool-index l.pool-items);
  small : All (λ (s : Scripted). pool_number s.pool ≤ 65) l.given.items;
  left :
      (bound : ℕ) × (bound ≤ 66) × IsFalling bound (drop l.pool-index l.pool-items)
      × ((other : PoolId) → pool_number other < bound → find (is_of_pool other) l.given.items ≡ find (is_of_pool other) l.initial.given.items);
}
