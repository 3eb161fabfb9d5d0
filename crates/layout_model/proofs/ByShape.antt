-- The tree of a device of a stack, by how the device treats a run.
use Rattle.std.proofs.Common.{◌≡◌, ℕ, map, Some, ap, ◌∙◌}
use Rattle.std.specs.Prelude.{slice_get}
use Rattle.std.proofs.lemmas.List.{get_or-map}
use Rattle.std.proofs.lemmas.Simd.{map-map}
use Rattle.std.proofs.lemmas.Option.{slice_get_within, get_or_from_slice_get}
use Rattle.stack_base.specs.declared.ids.DevId.{DevId}
use Rattle.stack_base.specs.declared.stack.Device.{Device}
use Rattle.stack_base.specs.declared.stack.Stack.{Stack}
use Rattle.stack_base.specs.Tree.{Leaf, Split, Mirrored, size, Keeps, Cuts, Copies, shape_of, over_shape, member_at, tree}
use Rattle.stack_base.specs.Stack.{IsStack}
use Rattle.stack_base.proofs.Unfolded.{tree_is}

module _ (stack : Stack) (good : IsStack stack) (number : ℕ) (device : Device) (found : slice_get stack.devices.items number ≡ Some device) where
  -- a device that cuts is a split over its members
  pub cuts_is : shape_of device.kind ≡ Cuts
      → tree stack number
      ≡ Split number device.kind (map (λ (m : DevId). size (tree stack m.0)) device.members.items)
      (member_at number (map (λ (m : DevId). tree stack m.0) device.members.items))
  unfolding over_shape
  cuts_is cuts =
      let trees = map (λ (m : DevId). tree stack m.0) device.members.items in
      tree_is stack good number device found
      ∙ ap (λ shape. over_shape shape number device.kind trees) cuts
      ∙ ap (λ sizes. Split number device.kind sizes (member_at number trees)) (map-map size (λ (m : DevId). tree stack m.0) device.members.items)

  -- one that copies is a mirror over them
  pub copies_is : shape_of device.kind ≡ Copies
      → tree stack number
      ≡ Mirrored number (map (λ (m : DevId). size (tree stack m.0)) device.members.items)
      (member_at number (map (λ (m : DevId). tree stack m.0) device.members.items))
  unfolding over_shape
  copies_is copies =
      let trees = map (λ (m : DevId). tree stack m.0) device.members.items in
      tree_is stack good number device found
      ∙ ap (λ shape. over_shape shape number device.kind trees) copies
      ∙ ap (λ sizes. Mirrored number sizes (member_at number trees)) (map-map size (λ (m : DevId). tree stack m.0) device.members.items)

  -- a disk is a leaf
  pub keeps_is : (sectors : ℕ) → shape_of device.kind ≡ Keeps sectors → tree stack number ≡ Leaf number sectors
  unfolding over_shape
  keeps_is sectors keeps =
      tree_is stack good number device found
      ∙ ap (λ shape. over_shape shape number device.kind (map (λ (m : DevId). tree stack m.0) device.members.items)) keeps

  -- what stands at the place of a member is the tree of that member
  pub member_is : (k : ℕ) (m : DevId) → slice_get device.members.items k ≡ Some m
      → member_at number (map (λ (m : DevId). tree stack m.0) device.members.items) k ≡ tree stack m.0
  member_is k m at_k =
      get_or-map (λ (m : DevId). tree stack m.0) device.members.items k m (Leaf number 0) (slice_get_within device.members.items k m at_k)
      ∙ ap (λ (m : DevId). tree stack m.0) (get_or_from_slice_get device.members.items k m m at_k)
