-- The way of a sector at a mirror, by the member that the first choice names; and at a disk.
use Rattle.std.proofs.Common.{◌≡◌, ◌↔◌, ℕ, ◌-◌, ◌≤◌, List, [], ◌∷◌, length, get_or, take, drop, Some, refl, sym, ap, ◌∙◌, subst, arith}
use Rattle.std.specs.Prelude.{slice_get}
use Rattle.std.proofs.lemmas.List.{take_all, length-map}
use Rattle.std.proofs.lemmas.Option.{slice_get_within}
use Rattle.stack_base.specs.declared.ids.DevId.{DevId}
use Rattle.stack_base.specs.declared.stack.Device.{Device}
use Rattle.stack_base.specs.declared.stack.Stack.{Stack}
use Rattle.stack_base.specs.Tree.{size, Keeps, Copies, shape_of, tree}
use Rattle.stack_base.specs.Stack.{IsStack}
use Rattle.layout_model.specs.Way.{FitsWay, place, heads}
use Rattle.layout_model.proofs.ByShape.{copies_is, keeps_is, member_is}
use Rattle.layout_model.proofs.MirrorLemmas.{leg_fits, leg_place}

module _ (stack : Stack) (good : IsStack stack) (number : ℕ) (device : Device) (found : slice_get stack.devices.items number ≡ Some device)
    (copies : shape_of device.kind ≡ Copies) where
  -- a choice leads on where the others do so from its member
  fits_leg : (s choice : ℕ) (choices : List ℕ) (m : DevId) → slice_get device.members.items choice ≡ Some m
      → FitsWay (tree stack m.0) s choices → FitsWay (tree stack number) s (choice ∷ choices)
  unfolding FitsWay
  fits_leg s choice choices m at_choice fits =
      subst (λ t. FitsWay t s (choice ∷ choices)) (sym (copies_is stack good number device found copies)) (
        omega (arith, slice_get_within device.members.items choice m at_choice, length-map device.members.items (λ (m : DevId). size (tree stack m.0))),
        subst (λ t. FitsWay t s choices) (sym (member_is stack good number device found choice m at_choice)) fits,
      )

  -- a mirror's own head is the start of the run
  heads_leg : (r s choice : ℕ) (choices : List ℕ) (m : DevId) → slice_get device.members.items choice ≡ Some m
      → heads (tree stack number) r s (choice ∷ choices) ≡ r ∷ heads (tree stack m.0) r s choices
  unfolding heads
  heads_leg r s choice choices m at_choice =
      ap (λ t. heads t r s (choice ∷ choices)) (copies_is stack good number device found copies)
      ∙ ap (λ t. r ∷ heads t r s choices) (member_is stack good number device found choice m at_choice)

  -- the same by the first of a list of choices, and the others
  pub leg_asks : (s : ℕ) (choices : List ℕ) (m : DevId) → 1 ≤ length choices → slice_get device.members.items (get_or choices 0 0) ≡ Some m
      → FitsWay (tree stack number) s choices ↔ FitsWay (tree stack m.0) s (take (length choices - 1) (drop 1 choices))
  leg_asks s [] m some there = absurd (omega arith)
  leg_asks s (choice ∷ choices) m some there =
      subst (λ others. FitsWay (tree stack number) s (choice ∷ choices) ↔ FitsWay (tree stack m.0) s others)
      (sym (take_all (length (choice ∷ choices) - 1) choices (omega arith)))
      (leg_fits stack good number device found copies s choice choices m there, fits_leg s choice choices m there)

  -- and so go the heads and the place
  pub leg_goes : (r s : ℕ) (choices : List ℕ) (m : DevId) → 1 ≤ length choices → slice_get device.members.items (get_or choices 0 0) ≡ Some m
      → (heads (tree stack number) r s choices ≡ r ∷ heads (tree stack m.0) r s (take (length choices - 1) (drop 1 choices)))
      × (place (tree stack number) s choices ≡ place (tree stack m.0) s (take (length choices - 1) (drop 1 choices)))
  leg_goes r s [] m some there = absurd (omega arith)
  leg_goes r s (choice ∷ choices) m some there =
      subst (λ others. (heads (tree stack number) r s (choice ∷ choices) ≡ r ∷ heads (tree stack m.0) r s others)
      × (place (tree stack number) s (choice ∷ choices) ≡ place (tree stack m.0) s others))
      (sym (take_all (length (choice ∷ choices) - 1) choices (omega arith)))
      (heads_leg r s choice choices m there, leg_place stack good number device found copies s choice choices m there)

module _ (stack : Stack) (good : IsStack stack) (number : ℕ) (device : Device) (found : slice_get stack.devices.items number ≡ Some device)
    (sectors : ℕ) (keeps : shape_of device.kind ≡ Keeps sectors) where
  -- at a disk there is no choice
  pub disk_asks : (s : ℕ) (choices : List ℕ) → FitsWay (tree stack number) s choices ↔ (length choices ≡ 0)
  unfolding FitsWay
  disk_asks s [] = (λ fits. refl, λ none. subst (λ t. FitsWay t s []) (sym (keeps_is stack good number device found sectors keeps)) refl)
  disk_asks s (choice ∷ choices) = (
    λ fits. let none = subst (λ t. FitsWay t s (choice ∷ choices)) (keeps_is stack good number device found sectors keeps) fits in ap length none,
    λ none. absurd (omega arith),
  )

  -- and one head
  pub disk_heads : (r s : ℕ) (choices : List ℕ) → heads (tree stack number) r s choices ≡ r ∷ []
  unfolding heads
  disk_heads r s choices = ap (λ t. heads t r s choices) (keeps_is stack good number device found sectors keeps)
