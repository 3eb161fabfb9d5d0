-- A device over its members, from what holds of each of them.
use Rattle.std.proofs.Common.{◌≡◌, ◌⊎◌, ℕ, ◌<◌, ◌≤◌, List, map, length, refl, sym, subst, inl, inr, arith}
use Rattle.std.proofs.lemmas.Bool.{cases_lt}
use Rattle.std.proofs.lemmas.List.{length-map, get_or_past}
use Rattle.stack_base.specs.declared.stack.Kind.{Kind}
use Rattle.stack_base.specs.declared.stack.Kind.TheVariants.{Disk, Linear, Stripe, Zoned, Limit, Mirror}
use Rattle.stack_base.specs.Mapping.{slot, head}
use Rattle.stack_base.specs.Cutting.{piece_end, CanCut, IsCut}
use Rattle.stack_base.specs.Tree.{Tree, Leaf, size, Shape, Keeps, Cuts, Copies, shape_of, over_shape, member_at}
use Rattle.stack_base.specs.Stack.{HasShape}
use Rattle.layout_model.proofs.Sound.{Sound}
use Rattle.layout_model.proofs.Apart.{HasDisk, Apart}

-- what holds of each member, and of the empty disk behind them, holds at every place
pub at_each_place : (P : Tree → Type 0) (number : ℕ) (list : List Tree) → P (Leaf number 0) → ((k : ℕ) → k < length list → P (member_at number list k)) → (k : ℕ) → P (member_at number list k)
at_each_place P number list behind each k = elim (cases_lt k (length list)) [
  | inl within ↦ each k within
  | inr past ↦ subst P (sym (get_or_past list k (Leaf number 0) past)) behind
]

module _ (number : ℕ) (kind : Kind) (list : List Tree) where
  -- a device is sound if its kind is and each member is
  pub sound_over : (shape : Shape) → (shape ≡ Cuts → IsCut (head kind (map size list)) (piece_end kind (map size list)) (slot kind (map size list)))
      → (shape ≡ Copies → 1 ≤ length list) → ((k : ℕ) → k < length list → Sound (member_at number list k))
      → Sound (over_shape shape number kind list)
  unfolding over_shape Sound
  sound_over (Keeps sectors) cut some each = tt
  sound_over Cuts cut some each = (cut refl, at_each_place Sound number list tt each)
  sound_over Copies cut some each = (omega (arith, some refl, length-map list size), at_each_place Sound number list tt each)

  -- a disk below a device is that device's own number or below a member
  pub has_over : (shape : Shape) (disk : ℕ) → HasDisk (over_shape shape number kind list) disk → (number ≡ disk) ⊎ ((k : ℕ) × (k < length list) × HasDisk (member_at number list k) disk)
  unfolding over_shape HasDisk
  has_over (Keeps sectors) disk has = inl has
  has_over Cuts disk has = elim (cases_lt has.0 (length list)) [
    | inl within ↦ inr (has.0, within, has.1)
    | inr past ↦ inl (subst (λ t. HasDisk t disk) (get_or_past list has.0 (Leaf number 0) past) has.1)
  ]
  has_over Copies disk has = elim (cases_lt has.0 (length list)) [
    | inl within ↦ inr (has.0, within, has.1)
    | inr past ↦ inl (subst (λ t. HasDisk t disk) (get_or_past list has.0 (Leaf number 0) past) has.1)
  ]

  -- the legs below a device are apart if those below each member are and the members have no disk in common
  pub apart_over : (shape : Shape) → ((k : ℕ) → k < length list → Apart (member_at number list k))
      → ((j k disk : ℕ) → j < k → k < length list → HasDisk (member_at number list j) disk → HasDisk (member_at number list k) disk → ⊥)
      → Apart (over_shape shape number kind list)
  unfolding over_shape Apart
  apart_over (Keeps sectors) each none = tt
  apart_over Cuts each none = at_each_place Apart number list tt each
  apart_over Copies each none = (λ j k disk lt within. none j k disk lt (omega (arith, length-map list size)), at_each_place Apart number list tt each)

-- a kind that cuts has numbers that are not 0
pub can_cut : (kind : Kind) (members : ℕ) → HasShape kind members → shape_of kind ≡ Cuts → CanCut kind
can_cut (Disk sectors bad) members shape cuts = absurd cc
can_cut Linear members shape cuts = tt
can_cut (Stripe chunk) members shape cuts = shape.0
can_cut (Zoned chunk) members shape cuts = shape.0
can_cut (Limit longest chunk) members shape cuts = shape.0
can_cut (Mirror records) members shape cuts = absurd cc

-- a kind that copies has a member
pub has_leg : (kind : Kind) (members : ℕ) → HasShape kind members → shape_of kind ≡ Copies → 1 ≤ members
has_leg (Disk sectors bad) members shape copies = absurd cc
has_leg Linear members shape copies = absurd cc
has_leg (Stripe chunk) members shape copies = absurd cc
has_leg (Zoned chunk) members shape copies = absurd cc
has_leg (Limit longest chunk) members shape copies = absurd cc
has_leg (Mirror records) members shape copies = shape.0
