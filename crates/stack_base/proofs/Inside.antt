-- A sector of a device that cuts is a sector of a member.
use Rattle.std.proofs.Common.{◌≡◌, ℕ, ◌+◌, ◌-◌, ◌*◌, ◌/◌, ◌%◌, ◌<◌, ◌≤◌, List, [], ◌∷◌, length, get_or, sum, inl, inr, add-one, arith}
use Rattle.std.specs.Prelude.{slice_index}
use Rattle.std.proofs.lemmas.List.{length-map, get_or-map}
use Rattle.std.proofs.lemmas.Bool.{cases_lt}
use Rattle.std.proofs.lemmas.Nat.{div_below, mod_below, mul-add-lt}
use Rattle.std.proofs.lemmas.List.Sums.{sum_by-cons}
use Rattle.std.proofs.Math.Nat.{mul-div-le, mul_comm, mul_right_comm}
use Rattle.stack_base.specs.declared.stack.Kind.{Kind}
use Rattle.stack_base.specs.declared.stack.Kind.TheVariants.{Disk, Linear, Stripe, Zoned, Limit, Mirror}
use Rattle.stack_base.specs.Mapping.{Slot, slot, among, size_of, smallest, whole_chunks, zones, in_zones}
use Rattle.stack_base.specs.Cutting.{CanCut}
use Rattle.stack_base.specs.Stack.{HasShape}
use Rattle.stack_base.proofs.Smallest.{smallest_le}
use Rattle.stack_base.proofs.Zones.{chunk_forward}
use Rattle.stack_base.proofs.Members.{among-in, among-behind}

-- a slot is a sector of one of the members of these sizes
abbrev pub IsInside : List ℕ → Slot → Type 0
IsInside sizes to = (to.member < length sizes) × (to.at < get_or sizes to.member 0)

-- members one behind the other
pub linear_inside : (sizes : List ℕ) (s : ℕ) → s < sum sizes → IsInside sizes (among sizes s)
linear_inside [] s lt = absurd (omega arith)
linear_inside (size ∷ sizes) s lt =
    elim (cases_lt s size) [
      | inl first ↦ rw (among-in size sizes s first) (omega arith, first)
      | inr behind ↦
          let whole : sum (size ∷ sizes) ≡ size + sum sizes = sum_by-cons (λ x. x) size sizes in
          let rest = linear_inside sizes (s - size) (omega arith) in
          rw (among-behind size sizes s behind, add-one) (omega (arith, rest.0), rest.1)
    ]

-- chunks that go round
pub stripe_inside : (chunk : ℕ) (sizes : List ℕ) (s : ℕ) → 1 ≤ chunk → 1 ≤ length sizes → s < size_of (Stripe chunk) sizes → IsInside sizes (slot (Stripe chunk) sizes s)
unfolding slot size_of
stripe_inside chunk sizes s pos some lt =
    let rows = smallest sizes / chunk in
    let number : s / chunk < length sizes * rows = div_below s chunk (length sizes * rows) pos (rw (mul_right_comm (length sizes) chunk rows) at lt) in
    let member : s / chunk % length sizes < length sizes = mod_below (s / chunk) (length sizes) some in
    let row : s / chunk / length sizes < rows = div_below (s / chunk) (length sizes) rows some (rw (mul_comm (length sizes) rows) at number) in
    let place : s / chunk / length sizes * chunk + s % chunk < chunk * rows = mul-add-lt (s / chunk / length sizes) chunk (s % chunk) rows row (mod_below s chunk pos) in
    (member, omega (arith, place, mul-div-le (smallest sizes) chunk, smallest_le sizes (s / chunk % length sizes) member))

-- chunks that go round in zones
pub zoned_inside : (chunk : ℕ) (sizes : List ℕ) (s : ℕ) → 1 ≤ chunk → s < size_of (Zoned chunk) sizes → IsInside sizes (slot (Zoned chunk) sizes s)
unfolding slot size_of
zoned_inside chunk sizes s pos lt =
    let counts = whole_chunks chunk sizes in
    let to = in_zones (zones counts) (s / chunk) in
    let there = chunk_forward counts (s / chunk) (div_below s chunk (sum counts) pos (omega (arith, mul_comm chunk (sum counts)))) in
    let member : to.member < length sizes = omega (arith, there.member, length-map sizes (λ (size : ℕ). size / chunk)) in
    let count : slice_index counts to.member ≡ get_or sizes to.member 0 / chunk = get_or-map (λ (size : ℕ). size / chunk) sizes to.member 0 0 member in
    let place : to.at * chunk + s % chunk < chunk * (get_or sizes to.member 0 / chunk) =
    mul-add-lt to.at chunk (s % chunk) (get_or sizes to.member 0 / chunk) (omega (arith, there.at)) (mod_below s chunk pos) in
    (member, omega (arith, place, mul-div-le (get_or sizes to.member 0) chunk))

-- the one member of a limit
pub limit_inside : (longest chunk : ℕ) (sizes : List ℕ) (s : ℕ) → length sizes ≡ 1 → s < size_of (Limit longest chunk) sizes → IsInside sizes (slot (Limit longest chunk) sizes s)
unfolding slot size_of
limit_inside longest chunk sizes s one lt =
    let some : 0 < length sizes = omega arith in
    (some, omega (arith, smallest_le sizes 0 some))

-- so each kind that cuts
pub kind_inside : (kind : Kind) (sizes : List ℕ) (s : ℕ) → CanCut kind → HasShape kind (length sizes) → s < size_of kind sizes → IsInside sizes (slot kind sizes s)
unfolding slot size_of
kind_inside Linear sizes s can shape lt = linear_inside sizes s lt
kind_inside (Stripe chunk) sizes s can shape lt = stripe_inside chunk sizes s can shape.1 lt
kind_inside (Zoned chunk) sizes s can shape lt = zoned_inside chunk sizes s can lt
kind_inside (Limit longest chunk) sizes s can shape lt = limit_inside longest chunk sizes s shape.1 lt
kind_inside (Disk sectors bad) sizes s can shape lt = absurd can
kind_inside (Mirror records) sizes s can shape lt = absurd can
