-- One state has its own numbers.
use Rattle.std.proofs.Common.{◌≡◌, ◌∙◌, ℕ, max, ap, arith}
use Rattle.mempool_core.specs.declared.Facts.{Facts}
use Rattle.stack_base.specs.Mapping.{smallest}
use Rattle.trace_replay.proofs.extents.first_extent.Goals as goal

max_zero : (n : ℕ) → n ≡ max 0 n
max_zero n = omega arith

pub returns : goal.returns
unfolding smallest
returns c =
    let has = c.facts-has.ensures in
    λ k. record {
      pool = c.args.pool;
      lowest = ap (λ (f : Facts). f.spares) has k;
      most = (ap (λ (f : Facts). f.out) has ∙ max_zero _) k;
    }
