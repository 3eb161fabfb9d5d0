-- The tree of a device of a stack is sound, and its legs are apart.
use Rattle.std.proofs.Common.{◌≡◌, ℕ, zero, suc, ◌+◌, ◌^◌, ◌<◌, List, [], ◌∷◌, map, length, get_or, Some, refl, sym, subst, inl, inr, arith}
use Rattle.std.specs.Prelude.{slice_get}
use Rattle.std.specs.List.Sorted.{IsPermutation, IsNonDecreasingBy}
use Rattle.std.proofs.lemmas.List.{length-map, get_or-map}
use Rattle.std.proofs.lemmas.Option.{slice_get-get_or}
use Rattle.stack_base.specs.declared.ids.DevId.{DevId}
use Rattle.stack_base.specs.declared.stack.Device.{Device}
use Rattle.stack_base.specs.declared.stack.Stack.{Stack}
use Rattle.stack_base.specs.Tree.{Leaf, size, shape_of, member_at, tree}
use Rattle.stack_base.specs.Stack.{IsMember, IsStack}
use Rattle.stack_base.proofs.KindCuts.{kind_cuts}
use Rattle.stack_base.proofs.Unfolded.{tree_is}
use Rattle.layout_model.specs.declared.fragment.Fragment.{Fragment}
use Rattle.layout_model.specs.Fragments.{fragment_order, AreFragments}
use Rattle.layout_model.specs.Plan.{frags}
use Rattle.layout_model.proofs.Sound.{Sound}
use Rattle.layout_model.proofs.Apart.{HasDisk, Apart}
use Rattle.layout_model.proofs.InOrder.{are_fragments}
use Rattle.layout_model.proofs.FromMembers.{sound_over, has_over, apart_over, can_cut, has_leg}
use Rattle.layout_model.proofs.DevicesUnder.{Under, itself, under_over, under_le, member_below, members_apart}

-- there is an element at each place of a list
pub element : {X : Type 0} (xs : List X) (i : ℕ) → i < length xs → (x : X) × (slice_get xs i ≡ Some x)
element [] i within = absurd (omega arith)
element (x ∷ xs) zero within = (x, refl)
element (x ∷ xs) (suc i) within = element xs i (omega arith)

-- the tree at place k of a device is that of a member m
pub member_tree : (stack : Stack) (number : ℕ) (device : Device) → slice_get stack.devices.items number ≡ Some device → (k : ℕ)
    → k < length (map (λ (m : DevId). tree stack m.0) device.members.items)
    → (m : ℕ) × IsMember stack number k m × (member_at number (map (λ (m : DevId). tree stack m.0) device.members.items) k ≡ tree stack m)
member_tree stack number device found k within =
    let items = device.members.items in
    let none : DevId = record { 0 = 0 } in
    let inside : k < length items = omega (arith, length-map items (λ (m : DevId). tree stack m.0)) in
    ((get_or items k none).0, (device, found, slice_get-get_or items k none inside), get_or-map (λ (m : DevId). tree stack m.0) items k none (Leaf number 0) inside)

module _ (stack : Stack) (good : IsStack stack) where
  -- the trees below a bound are sound
  sound_below : (bound number : ℕ) → number < bound → number < length stack.devices.items → Sound (tree stack number)
  sound_below zero number lt within = absurd (omega arith)
  sound_below (suc bound) number lt within =
      let at_number = element stack.devices.items number within in
      let device = at_number.0 in
      let found = at_number.1 in
      let trees = map (λ (m : DevId). tree stack m.0) device.members.items in
      let shape = (good.each number device found).shape in
      subst Sound (sym (tree_is stack good number device found)) (sound_over number device.kind trees (shape_of device.kind)
      (λ e. kind_cuts device.kind (map size trees) (can_cut device.kind (length device.members.items) shape e))
      (λ e. omega (arith, has_leg device.kind (length device.members.items) shape e, length-map device.members.items (λ (m : DevId). tree stack m.0)))
      (λ k inside.
      let m = member_tree stack number device found k inside in
      let below = member_below stack good number k m.0 m.1 in
      subst Sound (sym m.2) (sound_below bound m.0 (omega arith) (omega arith))))

  -- the tree of each device is sound
  pub tree_sound : (number : ℕ) → number < length stack.devices.items → Sound (tree stack number)
  tree_sound number within = sound_below (number + 1) number (omega arith) within

  -- a disk in the tree of a device is under that device
  under_below : (bound number disk : ℕ) → number < bound → number < length stack.devices.items → HasDisk (tree stack number) disk → Under stack disk number
  under_below zero number disk lt within has = absurd (omega arith)
  under_below (suc bound) number disk lt within has =
      let at_number = element stack.devices.items number within in
      let device = at_number.0 in
      let found = at_number.1 in
      let trees = map (λ (m : DevId). tree stack m.0) device.members.items in
      elim (has_over number device.kind trees (shape_of device.kind) disk (subst (λ t. HasDisk t disk) (tree_is stack good number device found) has)) [
        | inl own ↦ subst (λ d. Under stack d number) own itself
        | inr leg ↦
            let m = member_tree stack number device found leg.0 leg.1 in
            let below = member_below stack good number leg.0 m.0 m.1 in
            under_over number leg.0 (under_below bound m.0 disk (omega arith) (omega arith) (subst (λ t. HasDisk t disk) m.2 leg.2)) m.1
      ]

  pub disk_under : (number disk : ℕ) → number < length stack.devices.items → HasDisk (tree stack number) disk → Under stack disk number
  disk_under number disk within has = under_below (number + 1) number disk (omega arith) within has

  -- disks have small numbers
  pub disk_small : (number : ℕ) → number < length stack.devices.items → (disk : ℕ) → HasDisk (tree stack number) disk → disk < 2 ^ 32
  disk_small number within disk has = omega (arith, under_le stack good (disk_under number disk within has), good.few)

  -- the trees below a bound have their legs apart
  apart_below : (bound number : ℕ) → number < bound → number < length stack.devices.items → Apart (tree stack number)
  apart_below zero number lt within = absurd (omega arith)
  apart_below (suc bound) number lt within =
      let at_number = element stack.devices.items number within in
      let device = at_number.0 in
      let found = at_number.1 in
      let trees = map (λ (m : DevId). tree stack m.0) device.members.items in
      subst Apart (sym (tree_is stack good number device found)) (apart_over number device.kind trees (shape_of device.kind)
      (λ k inside.
      let m = member_tree stack number device found k inside in
      let below = member_below stack good number k m.0 m.1 in
      subst Apart (sym m.2) (apart_below bound m.0 (omega arith) (omega arith)))
      (λ j k disk before inside left right.
      let m = member_tree stack number device found j (omega arith) in
      let n = member_tree stack number device found k inside in
      let below = member_below stack good number j m.0 m.1 in
      let also = member_below stack good number k n.0 n.1 in
      members_apart stack good number j k m.0 n.0 disk (omega arith) m.1 n.1
      (disk_under m.0 disk (omega arith) (subst (λ t. HasDisk t disk) m.2 left))
      (disk_under n.0 disk (omega arith) (subst (λ t. HasDisk t disk) n.2 right))))

  -- the tree of each device has its legs apart
  pub tree_apart : (number : ℕ) → number < length stack.devices.items → Apart (tree stack number)
  tree_apart number within = apart_below (number + 1) number (omega arith) within

  -- what cutting at a device gives, sorted by their order, is the list of the fragments
  pub tree_fragments : (number : ℕ) → number < length stack.devices.items → (write r len : ℕ) → 0 < len
      → (list : List Fragment) → IsPermutation (frags (tree stack number) write 0 r len) list → IsNonDecreasingBy fragment_order list
      → AreFragments (tree stack number) write r len list
  tree_fragments number within write r len some list same sorted =
      are_fragments (tree stack number) (tree_sound number within) (tree_apart number within) (disk_small number within) write r len some list same sorted
