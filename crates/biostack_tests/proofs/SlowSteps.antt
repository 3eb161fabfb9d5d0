-- The step of a sector's way from a device that cuts runs.
use Rattle.std.proofs.Common.{◌≡◌, ◌↔◌, ℕ, zero, suc, ◌+◌, ◌-◌, ◌<◌, ◌≤◌, List, ◌∷◌, length, get_or, map, Some, inl, inr, refl, sym, ap, ◌∙◌, subst, arith}
use Rattle.std.specs.Prelude.{slice_get}
use Rattle.std.proofs.lemmas.Bool.{cases_lt}
use Rattle.std.proofs.lemmas.List.{length-map, get_or-map}
use Rattle.std.proofs.lemmas.Option.{slice_get_within, get_or_from_slice_get}
use Rattle.stack_base.specs.declared.ids.DevId.{DevId}
use Rattle.stack_base.specs.declared.stack.Kind.{Kind}
use Rattle.stack_base.specs.declared.stack.Device.{Device}
use Rattle.stack_base.specs.declared.stack.Stack.{Stack}
use Rattle.stack_base.specs.Mapping.{Slot, slot, head}
use Rattle.stack_base.specs.Cutting.{piece_end, IsCut}
use Rattle.stack_base.specs.Tree.{Tree, Split, Cuts, shape_of, member_at, size, tree}
use Rattle.stack_base.specs.Stack.{HasShape, IsStack}
use Rattle.stack_base.proofs.Heads.{head_bounds}
use Rattle.stack_base.proofs.Inside.{IsInside, kind_inside}
use Rattle.stack_base.proofs.KindCuts.{kind_cuts}
use Rattle.stack_base.proofs.Unfolded.{size-tree}
use Rattle.layout_model.specs.Way.{FitsWay, place, heads}
use Rattle.layout_model.proofs.FromMembers.{can_cut}
use Rattle.layout_model.proofs.ByShape.{cuts_is, member_is}
use Rattle.biostack_tests.specs.Slow.{IsStep}

module _ (head : ℕ → ℕ → ℕ) (next : ℕ → ℕ) (slot : ℕ → Slot) (cut : IsCut head next slot) where
  -- a sector is before the end of the piece that begins at its head
  head_reaches_in : (steps r s : ℕ) → s ≤ r + steps → r ≤ s → s < next (head r s)
  head_reaches_in zero r s near le =
      let first : s < next r = omega (arith, cut.ahead r) in
      rw (cut.here r s le first) first
  head_reaches_in (suc steps) r s near le =
      elim (cases_lt s (next r)) [
        | inl lt ↦ rw (cut.here r s le lt) lt
        | inr ge ↦ rw (cut.later r s ge) (head_reaches_in steps (next r) s (omega (arith, cut.ahead r)) ge)
      ]

  -- so it lies in the member that its head lies in, and not before it
  pub head_along : (r s : ℕ) → r ≤ s → slot s ≡ record { member = (slot (head r s)).member; at = (slot (head r s)).at + (s - head r s) }
  head_along r s le = cut.along (head r s) s (head_bounds head next slot cut r s le).1 (head_reaches_in s r s (omega arith) le)

-- at a device that cuts, the same choices lead the sector on in its member
asks_on : (number : ℕ) (kind : Kind) (sizes : List ℕ) (members : ℕ → Tree) (s : ℕ) (choices : List ℕ)
    → FitsWay (Split number kind sizes members) s choices ↔ FitsWay (members (slot kind sizes s).member) (slot kind sizes s).at choices
unfolding FitsWay
asks_on number kind sizes members s choices = (λ fits. fits, λ fits. fits)

-- to the same place
leads_on : (number : ℕ) (kind : Kind) (sizes : List ℕ) (members : ℕ → Tree) (s : ℕ) (choices : List ℕ)
    → place (Split number kind sizes members) s choices ≡ place (members (slot kind sizes s).member) (slot kind sizes s).at choices
unfolding place
leads_on number kind sizes members s choices = refl

-- and the device's own head comes before those from there on
heads_on : (number : ℕ) (kind : Kind) (sizes : List ℕ) (members : ℕ → Tree) (r s : ℕ) (choices : List ℕ)
    → heads (Split number kind sizes members) r s choices
    ≡ head kind sizes r s ∷ heads (members (slot kind sizes s).member) (slot kind sizes (head kind sizes r s)).at (slot kind sizes s).at choices
unfolding heads
heads_on number kind sizes members r s choices = refl

module _ (stack : Stack) (good : IsStack stack) (number : ℕ) (device : Device) (found : slice_get stack.devices.items number ≡ Some device)
    (cuts : shape_of device.kind ≡ Cuts) (s : ℕ) (within : s < size (tree stack number)) where
  -- its shape, by how many sizes its members have
  pub sized_shape : HasShape device.kind (length (map (λ (m : DevId). size (tree stack m.0)) device.members.items))
  sized_shape = subst (HasShape device.kind) (sym (length-map device.members.items (λ (m : DevId). size (tree stack m.0)))) (good.each number device found).shape

  -- it cuts by the laws of cutting
  cut_is : IsCut (head device.kind (map (λ (m : DevId). size (tree stack m.0)) device.members.items))
      (piece_end device.kind (map (λ (m : DevId). size (tree stack m.0)) device.members.items))
      (slot device.kind (map (λ (m : DevId). size (tree stack m.0)) device.members.items))
  cut_is = kind_cuts device.kind _ (can_cut device.kind (length device.members.items) (good.each number device found).shape cuts)

  -- the sector is a sector of a member
  in_member : IsInside (map (λ (m : DevId). size (tree stack m.0)) device.members.items) (slot device.kind (map (λ (m : DevId). size (tree stack m.0)) device.members.items) s)
  in_member =
      kind_inside device.kind _ s (can_cut device.kind (length device.members.items) (good.each number device found).shape cuts) sized_shape
      (omega (arith, size-tree stack good number device found))

  -- the member is there
  pub member_there : (member at : ℕ) → slot device.kind (map (λ (m : DevId). size (tree stack m.0)) device.members.items) s ≡ record { member = member; at = at }
      → member < length device.members.items
  member_there member at is =
      omega (arith, in_member.0, ap (λ (to : Slot). to.member) is, length-map device.members.items (λ (m : DevId). size (tree stack m.0)))

  -- the member, with the sector and its head there, is the step down
  pub step_is : (r member at first other from : ℕ) (m : DevId) → r ≤ s
      → slot device.kind (map (λ (m : DevId). size (tree stack m.0)) device.members.items) s ≡ record { member = member; at = at }
      → first ≡ head device.kind (map (λ (m : DevId). size (tree stack m.0)) device.members.items) r s
      → slot device.kind (map (λ (m : DevId). size (tree stack m.0)) device.members.items) first ≡ record { member = other; at = from }
      → slice_get device.members.items member ≡ Some m
      → IsStep stack number r s (record { head = first; dev = m; start = from; sector = at })
  step_is r member at first other from m le is begins is_first at_member =
      let items = device.members.items in
      let size_at = λ (m : DevId). size (tree stack m.0) in
      let sizes = map size_at items in
      let members = member_at number (map (λ (m : DevId). tree stack m.0) items) in
      let whole = cuts_is stack good number device found cuts in
      let leg : members member ≡ tree stack m.0 = member_is stack good number device found member m at_member in
      let below : m.0 < number = (good.each number device found).below member m at_member in
      let inside = subst (IsInside sizes) is in_member in
      let wide : get_or sizes member 0 ≡ size_at m =
      get_or-map size_at items member m 0 (slice_get_within items member m at_member) ∙ ap size_at (get_or_from_slice_get items member m m at_member) in
      let lies = ap (slot device.kind sizes) (sym begins) ∙ is_first in
      let along = head_along (head device.kind sizes) (piece_end device.kind sizes) (slot device.kind sizes) cut_is r s le in
      record {
        below = below;
        known = omega (arith, slice_get_within stack.devices.items number device found);
        inside = omega (arith, inside.1);
        before = omega (arith, ap (λ (to : Slot). to.at) along, ap (λ (to : Slot). to.at) is, ap (λ (to : Slot). to.at) lies);
        asks = λ choices.
            subst (λ t. FitsWay (tree stack number) s choices ↔ FitsWay t at choices) leg (
            subst (λ t. FitsWay t s choices ↔ FitsWay (members member) at choices) (sym whole) (
            subst (λ (to : Slot). FitsWay (Split number device.kind sizes members) s choices ↔ FitsWay (members to.member) to.at choices) is
            (asks_on number device.kind sizes members s choices)));
        leads = λ choices. ap (λ t. place t s choices) whole
            ∙ leads_on number device.kind sizes members s choices
            ∙ ap (λ (to : Slot). place (members to.member) to.at choices) is
            ∙ ap (λ t. place t at choices) leg;
        goes_on = λ choices. ap (λ t. heads t r s choices) whole
            ∙ heads_on number device.kind sizes members r s choices
            ∙ ap (λ (to : Slot). head device.kind sizes r s ∷ heads (members to.member) (slot device.kind sizes (head device.kind sizes r s)).at to.at choices) is
            ∙ ap (λ (to : Slot). head device.kind sizes r s ∷ heads (members member) to.at at choices) lies
            ∙ ap (λ h. h ∷ heads (members member) from at choices) (sym begins)
            ∙ ap (λ t. first ∷ heads t from at choices) leg;
      }
