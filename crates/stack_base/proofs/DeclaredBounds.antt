-- In a stack that passes the checks of a declaration no device has more sectors than all disks together, or more beginning at one sector
-- than nine for each device: a device is a member at most once, so what the devices before it bring is counted once.
use Rattle.std.proofs.Common.{◌≡◌, ℕ, suc, ◌+◌, ◌<◌, ◌≤◌, List, [], length, map, sum, sum_by, Option, None, Some, refl, ap, subst, sym, inl, inr, arith}
use Rattle.std.specs.Prelude.{slice_get}
use Rattle.std.proofs.lemmas.List.{length-map}
use Rattle.std.proofs.lemmas.List.Sums.{sum-map, sum_by-le}
use Rattle.std.proofs.lemmas.Option.{slice_get_cases, slice_get_within}
use Rattle.std.proofs.lemmas.Simd.{map-map}
use Rattle.stack_base.specs.declared.ids.DevId.{DevId}
use Rattle.stack_base.specs.declared.stack.Device.{Device}
use Rattle.stack_base.specs.declared.stack.Stack.{Stack}
use Rattle.stack_base.specs.Declaration.{own_sectors, IsDeclared}
use Rattle.stack_base.specs.Stack.{HasShape, IsMember, IsStack, KeepsSizes}
use Rattle.stack_base.specs.Tree.{Tree, tree, size, most_begun}
use Rattle.stack_base.proofs.DeclaredKinds.{size_of_le, most_over_le}
use Rattle.stack_base.proofs.DeclaredSums.{total_grows, total_of_list, value_of, value_le}
use Rattle.stack_base.proofs.Unfolded.{GoesDown, tree_going_down, size_going_down}

-- the members of a device, if there is one
abbrev members_of : Option Device → List DevId
members_of None = []
members_of (Some device) = device.members.items

-- a member of it is a member of a device
member_from :
    (o : Option Device) (i : ℕ) (m : DevId) → slice_get (members_of o) i ≡ Some m
    → (device : Device) × (o ≡ Some device) × (slice_get device.members.items i ≡ Some m)
member_from None i m is = absurd (grind arith)
member_from (Some device) i m is = (device, refl, is)

module _ (stack : Stack) (declared : IsDeclared stack) where
  -- the members of the device of a number
  abbrev members_at : ℕ → List DevId
  members_at number = members_of (slice_get stack.devices.items number)

  member_at_place : (p i : ℕ) (m : DevId) → slice_get (members_at p) i ≡ Some m → IsMember stack p i m.0
  member_at_place p i m is = member_from (slice_get stack.devices.items p) i m is

  -- members go down
  pub declared_down : GoesDown stack
  declared_down = record { below = declared.below }

  -- a measure that adds no more to those of the members than the device brings itself is at most what the devices up to it bring
  measure_le :
      (measure : Tree → ℕ) (brings : Device → ℕ)
      → ((number : ℕ) (device : Device) → slice_get stack.devices.items number ≡ Some device
      → measure (tree stack number) ≤ brings device + sum_by (λ (m : DevId). measure (tree stack m.0)) device.members.items)
      → (number : ℕ) → number < length stack.devices.items → measure (tree stack number) ≤ sum_by brings stack.devices.items
  measure_le measure brings adds number within =
      let devices = stack.devices.items in
      let own = λ (p : ℕ). value_of brings (slice_get devices p) in
      let each : (p : ℕ) → p < suc number → measure (tree stack p) ≤ own p + sum_by (λ (m : DevId). measure (tree stack m.0)) (members_at p) =
      λ p lt. elim (slice_get_cases devices p).1 [
        | inl found ↦
            omega (
              arith,
              adds p found.0 found.2,
              ap (value_of brings) found.2,
              ap (λ (o : Option Device). sum_by (λ (m : DevId). measure (tree stack m.0)) (members_of o)) found.2,
            )
        | inr past ↦ absurd (omega (arith, past.0))
      ] in
      omega (
        arith,
        value_le members_at
            (λ p q i j m one other. declared.once p q i j m.0 (member_at_place p i m one) (member_at_place q j m other))
            (λ p i m is. let from = member_at_place p i m is in declared.below p from.0 i m from.1 from.2)
            (λ p. measure (tree stack p)) own number each,
        total_grows own (suc number) (length devices) (omega arith),
        total_of_list brings devices,
      )

  -- no device is larger than all disks together
  pub declared_small : (number : ℕ) → number < length stack.devices.items → size (tree stack number) ≤ 262144
  declared_small number within =
      let brings = λ (device : Device). own_sectors device.kind in
      omega (
        arith,
        declared.disks,
        sum-map brings stack.devices.items,
        measure_le size brings (λ p device found.
            let sizes = λ (m : DevId). size (tree stack m.0) in
            omega (
              arith,
              size_going_down stack declared_down p device found,
              size_of_le device.kind (map sizes device.members.items),
              sum-map sizes device.members.items,
            )) number within,
      )

  -- no device has more beginning at one sector than nine for each device
  pub declared_narrow : (number : ℕ) → number < length stack.devices.items → most_begun (tree stack number) ≤ 288
  declared_narrow number within =
      omega (
        arith,
        declared.few,
        sum_by-le (λ (device : Device). 9) 9 stack.devices.items (λ i d lt. omega arith),
        measure_le most_begun (λ device. 9) (λ p device found.
            let items = device.members.items in
            let trees = map (λ (m : DevId). tree stack m.0) items in
            let of_members = λ (m : DevId). most_begun (tree stack m.0) in
            let shape : HasShape device.kind (length trees) =
            subst (HasShape device.kind) (sym (length-map items (λ (m : DevId). tree stack m.0))) (declared.shape p device found) in
            omega (
              arith,
              ap most_begun (tree_going_down stack declared_down p device found),
              most_over_le p device.kind trees shape,
              ap sum (map-map most_begun (λ (m : DevId). tree stack m.0) items),
              sum-map of_members items,
            )) number within,
      )

  -- where each device has a sector, it is a stack that a declaration may have
  pub declared_stack : ((number : ℕ) → number < length stack.devices.items → 1 ≤ size (tree stack number)) → KeepsSizes stack → IsStack stack
  declared_stack some sizes = record {
    few = declared.few;
    each = λ number device found.
        let within = slice_get_within stack.devices.items number device found in
        record {
          below = λ i m is. declared.below number device i m found is;
          shape = declared.shape number device found;
          some = some number within;
          small = declared_small number within;
          narrow = declared_narrow number within;
        };
    once = declared.once;
    sizes = sizes;
  }
