-- What a device shows is on a disk, at a sector that the disk has.
use Rattle.std.proofs.Common.{◌≡◌, ◌+◌, ◌<◌, ◌≤◌, ℕ, zero, suc, true, length, get_or, map, Some, refl, sym, ap, ◌∙◌, subst, arith}
use Rattle.std.specs.Prelude.{slice_get}
use Rattle.std.proofs.lemmas.List.{length-map, get_or-map}
use Rattle.std.proofs.lemmas.Option.{slice_get-get_or, slice_get_within}
use Rattle.stack_base.specs.declared.ids.DevId.{DevId}
use Rattle.stack_base.specs.declared.stack.Device.{Device}
use Rattle.stack_base.specs.declared.stack.Stack.{Stack}
use Rattle.stack_base.specs.Mapping.{slot}
use Rattle.stack_base.specs.Stack.{HasShape, IsStack}
use Rattle.stack_base.specs.Tree.{Shape, Keeps, Cuts, Copies, shape_of, size, tree}
use Rattle.stack_base.proofs.Inside.{IsInside, kind_inside}
use Rattle.stack_base.proofs.Unfolded.{size-tree}
use Rattle.layout_model.specs.Shown.{keeps_data, shown_sector}
use Rattle.layout_model.specs.Way.{Place}
use Rattle.layout_model.proofs.ByShape.{cuts_is, member_is}
use Rattle.layout_model.proofs.MirrorMembers.{leg_known}
use Rattle.layout_model.proofs.MirrorLemmas.{disk_is, disk_shown, leg_shown}
use Rattle.layout_model.proofs.FromMembers.{can_cut, has_leg}
use Rattle.layout_model.proofs.Stacks.{element}

-- a sector of a disk of the stack
pub record IsOnDisk (stack : Stack) (place : Place) : Type 0 where
  pub known : place.disk < length stack.devices.items
  pub disk : keeps_data (tree stack place.disk) ≡ true
  pub within : place.at < size (tree stack place.disk)

module _ (stack : Stack) (good : IsStack stack) where
  module _ (number : ℕ) (device : Device) (found : slice_get stack.devices.items number ≡ Some device)
      (below : (m : DevId) → m.0 < number → (y : ℕ) → y < size (tree stack m.0) → IsOnDisk stack (shown_sector (tree stack m.0) y))
      (x : ℕ) (inside : x < size (tree stack number)) where
    by_shape : (shape : Shape) → shape_of device.kind ≡ shape → IsOnDisk stack (shown_sector (tree stack number) x)
    unfolding shown_sector
    by_shape (Keeps sectors) keeps =
        subst (IsOnDisk stack) (sym (disk_shown stack good number device found sectors keeps x)) (record {
          known = slice_get_within stack.devices.items number device found;
          disk = disk_is stack good number device found sectors keeps;
          within = inside;
        })
    by_shape Cuts cuts =
        let items = device.members.items in
        let size_at = λ (m : DevId). size (tree stack m.0) in
        let sizes = map size_at items in
        let to = slot device.kind sizes x in
        let shape = (good.each number device found).shape in
        let count : length sizes ≡ length items = length-map items size_at in
        let in_member : IsInside sizes to = kind_inside device.kind sizes x (can_cut device.kind (length items) shape cuts)
        (subst (HasShape device.kind) (sym count) shape) (omega (arith, inside, size-tree stack good number device found)) in
        let m = get_or items to.member (record { 0 = 0 }) in
        let there = slice_get-get_or items to.member (record { 0 = 0 }) (omega (arith, in_member.0, count)) in
        let wide : get_or sizes to.member 0 ≡ size (tree stack m.0) =
        get_or-map size_at items to.member (record { 0 = 0 }) 0 (omega (arith, in_member.0, count)) in
        let on_member : IsOnDisk stack (shown_sector (tree stack m.0) to.at) =
        below m ((good.each number device found).below to.member m there) to.at (omega (arith, in_member.1, wide)) in
        subst (IsOnDisk stack)
        (sym
        (ap (λ t. shown_sector t x) (cuts_is stack good number device found cuts)
        ∙ ap (λ t. shown_sector t to.at) (member_is stack good number device found to.member m there)))
        on_member
    by_shape Copies copies =
        let items = device.members.items in
        let some : 1 ≤ length items = has_leg device.kind (length items) (good.each number device found).shape copies in
        let m = get_or items 0 (record { 0 = 0 }) in
        let there = slice_get-get_or items 0 (record { 0 = 0 }) (omega (arith, some)) in
        let known = leg_known stack good number device found copies 0 m there in
        subst (IsOnDisk stack) (sym (leg_shown stack good number device found copies x m there))
        (below m known.0 x (omega (arith, inside, known.2)))

  shown_below : (bound number : ℕ) → number < bound → number < length stack.devices.items → (x : ℕ) → x < size (tree stack number)
      → IsOnDisk stack (shown_sector (tree stack number) x)
  shown_below zero number lt within x inside = absurd (omega (arith, lt))
  shown_below (suc bound) number lt within x inside =
      let device = element stack.devices.items number within in
      by_shape number device.0 device.1
      (λ m under y there. shown_below bound m.0 (omega (arith, under, lt)) (omega (arith, under, within)) y there) x inside (shape_of device.0.kind) refl

  -- each sector that a device shows is one of a disk
  pub shown_on_disk : (number : ℕ) → number < length stack.devices.items → (x : ℕ) → x < size (tree stack number) → IsOnDisk stack (shown_sector (tree stack number) x)
  shown_on_disk number within x inside = shown_below (number + 1) number (omega arith) within x inside
