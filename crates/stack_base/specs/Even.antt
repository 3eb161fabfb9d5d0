-- Members of one size.
use Rattle.std.specs.Prelude.{◌≡◌, ◌<◌, ◌≤◌, ℕ, List, length, replicate}
use Rattle.stack_base.specs.declared.stack.Kind.TheVariants.{Stripe, Zoned}
use Rattle.stack_base.specs.Mapping.{size_of, slot, head, smallest}

-- a stripe goes by how many members it has and by the smallest of them: it is the stripe over so many of that size
pub record StripesGoBySmallest : Type 0 where
  pub sizes : (chunk : ℕ) (sizes : List ℕ) → size_of (Stripe chunk) sizes ≡ size_of (Stripe chunk) (replicate (length sizes) (smallest sizes))
  pub slots : (chunk : ℕ) (sizes : List ℕ) (s : ℕ) → slot (Stripe chunk) sizes s ≡ slot (Stripe chunk) (replicate (length sizes) (smallest sizes)) s
  pub heads : (chunk : ℕ) (sizes : List ℕ) (r s : ℕ) → head (Stripe chunk) sizes r s ≡ head (Stripe chunk) (replicate (length sizes) (smallest sizes)) r s

-- over members of one size a zoned device is a stripe: as large, with each of its sectors at the same place, and cut alike
pub record EvenZonesAreStripes : Type 0 where
  pub sizes : (chunk members size : ℕ) → size_of (Zoned chunk) (replicate members size) ≡ size_of (Stripe chunk) (replicate members size)
  pub slots : (chunk members size s : ℕ) → 1 ≤ chunk → s < size_of (Zoned chunk) (replicate members size)
      → slot (Zoned chunk) (replicate members size) s ≡ slot (Stripe chunk) (replicate members size) s
  pub heads : (chunk members size r s : ℕ) → head (Zoned chunk) (replicate members size) r s ≡ head (Stripe chunk) (replicate members size) r s
