-- What a stripe keeps.
use Rattle.std.specs.Prelude.{ℕ, ◌≤◌, replicate}
use Rattle.stack_base.specs.declared.stack.Kind.TheVariants.{Stripe}
use Rattle.stack_base.specs.Mapping.{size_of}
use Rattle.stack_base.specs.Stack.{HasShape}

-- the sectors of a chunk, how many members there are, and the sectors of the smallest
pub record Numbers : Type 0 where
  pub chunk : ℕ
  pub members : ℕ
  pub smallest : ℕ

-- they are those of a stripe, with no more sectors than all disks may have
pub record IsStripe (stripe : Numbers) : Type 0 where
  pub shape : HasShape (Stripe stripe.chunk) stripe.members
  pub small : size_of (Stripe stripe.chunk) (replicate stripe.members stripe.smallest) ≤ 262144
