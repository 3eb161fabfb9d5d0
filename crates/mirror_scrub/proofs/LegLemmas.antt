-- The members of a mirror, as code finds them.
use Rattle.std.proofs.Common.{◌≡◌, ◌<◌, ◌≤◌, ℕ, length, get_or, Some, refl, ap, ◌∙◌, arith}
use Rattle.std.specs.Prelude.{slice_get}
use Rattle.std.proofs.lemmas.List.{length-map}
use Rattle.std.proofs.lemmas.Option.{slice_get-get_or}
use Rattle.stack_base.specs.declared.ids.DevId.{DevId}
use Rattle.stack_base.specs.declared.stack.Device.{Device}
use Rattle.stack_base.specs.declared.stack.Kind.{Kind}
use Rattle.stack_base.specs.declared.stack.Kind.TheVariants.{Disk, Linear, Stripe, Zoned, Limit, Mirror}
use Rattle.stack_base.specs.declared.stack.Stack.{Stack}
use Rattle.stack_base.specs.Stack.{IsStack}
use Rattle.stack_base.specs.Tree.{Tree, Shape, Keeps, Cuts, Copies, shape_of, size, tree, legs_of}
use Rattle.layout_model.proofs.ByShape.{copies_is, cuts_is, keeps_is, member_is}
use Rattle.layout_model.proofs.MirrorMembers.{leg_known}
use Rattle.mirror_scrub.specs.Seen.{mirror_member}

-- the member of a mirror at a place
pub record IsLegOf (stack : Stack) (mirror place : ℕ) (m : DevId) : Type 0 where
  pub known : m.0 < length stack.devices.items
  pub inside : size (tree stack mirror) ≤ size (tree stack m.0)
  pub leg : mirror_member (tree stack mirror) place ≡ tree stack m.0

module _ (stack : Stack) (good : IsStack stack) (number : ℕ) (device : Device) (found : slice_get stack.devices.items number ≡ Some device) where
  -- a mirror has as many as were declared
  pub legs_of_mirror : shape_of device.kind ≡ Copies → legs_of (tree stack number) ≡ length device.members.items
  legs_of_mirror copies =
      ap legs_of (copies_is stack good number device found copies) ∙ length-map device.members.items (λ (m : DevId). size (tree stack m.0))

  -- and other devices have none
  legs_by_kind : (kind : Kind) → device.kind ≡ kind → ((records : ℕ) → kind ≡ Mirror records → ⊥) → legs_of (tree stack number) ≡ 0
  legs_by_kind (Disk sectors bad) is other = ap legs_of (keeps_is stack good number device found sectors (ap shape_of is))
  legs_by_kind Linear is other = ap legs_of (cuts_is stack good number device found (ap shape_of is))
  legs_by_kind (Stripe chunk) is other = ap legs_of (cuts_is stack good number device found (ap shape_of is))
  legs_by_kind (Zoned chunk) is other = ap legs_of (cuts_is stack good number device found (ap shape_of is))
  legs_by_kind (Limit longest chunk) is other = ap legs_of (cuts_is stack good number device found (ap shape_of is))
  legs_by_kind (Mirror records) is other = absurd (other records refl)

  pub legs_of_other : ((records : ℕ) → device.kind ≡ Mirror records → ⊥) → legs_of (tree stack number) ≡ 0
  legs_of_other other = legs_by_kind device.kind refl other

  copies_by_shape : (shape : Shape) → shape_of device.kind ≡ shape → 0 < legs_of (tree stack number) → shape ≡ Copies
  copies_by_shape (Keeps sectors) is some = absurd (omega (arith, some, ap legs_of (keeps_is stack good number device found sectors is)))
  copies_by_shape Cuts is some = absurd (omega (arith, some, ap legs_of (cuts_is stack good number device found is)))
  copies_by_shape Copies is some = refl

  pub leg_is : (place : ℕ) → place < legs_of (tree stack number)
      → (place < length device.members.items) × IsLegOf stack number place (get_or device.members.items place (record { 0 = 0 }))
  leg_is place lt =
      let copies = copies_by_shape (shape_of device.kind) refl (omega (arith, lt)) in
      let within : place < length device.members.items = omega (arith, lt, legs_of_mirror copies) in
      let there = slice_get-get_or device.members.items place (record { 0 = 0 }) within in
      let known = leg_known stack good number device found copies place _ there in (
        within,
        record {
          known = known.1;
          inside = known.2;
          leg = ap (λ (t : Tree). mirror_member t place) (copies_is stack good number device found copies) ∙ member_is stack good number device found place _ there;
        },
      )
