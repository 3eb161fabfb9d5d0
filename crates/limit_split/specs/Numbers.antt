-- What a limit keeps.
use Rattle.std.specs.Prelude.{ℕ, ◌≤◌}
use Rattle.stack_base.specs.declared.stack.Kind.TheVariants.{Limit}
use Rattle.stack_base.specs.Stack.{HasShape}

-- the longest piece, the multiples that no piece crosses, and the sectors of the one member
pub record LimitNumbers : Type 0 where
  pub longest : ℕ
  pub chunk : ℕ
  pub sectors : ℕ

-- they are those of a limit, with no more sectors than all disks may have
pub record IsLimit (limit : LimitNumbers) : Type 0 where
  pub shape : HasShape (Limit limit.longest limit.chunk) 1
  pub small : limit.sectors ≤ 262144
