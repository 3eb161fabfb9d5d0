-- The members of a mirror, as code finds them: each was declared before it and is no smaller, and a choice leads to one of them.
use Rattle.std.proofs.Common.{◌≡◌, ℕ, ◌-◌, ◌<◌, ◌≤◌, List, [], ◌∷◌, length, get_or, take, drop, Some, subst, sym, arith}
use Rattle.std.specs.Prelude.{slice_get}
use Rattle.std.proofs.lemmas.List.{take_all}
use Rattle.std.proofs.lemmas.Option.{slice_get_within}
use Rattle.stack_base.specs.declared.ids.DevId.{DevId}
use Rattle.stack_base.specs.declared.stack.Device.{Device}
use Rattle.stack_base.specs.declared.stack.Stack.{Stack}
use Rattle.stack_base.specs.Tree.{size, Copies, shape_of, tree}
use Rattle.stack_base.specs.Stack.{IsStack}
use Rattle.layout_model.specs.Way.{FitsWay}
use Rattle.layout_model.specs.Pieces.{IsChosen}
use Rattle.layout_model.proofs.MirrorLemmas.{leg_size, leg_asked, leg_chosen, leg_fits, leg_place}

module _ (stack : Stack) (good : IsStack stack) (number : ℕ) (device : Device) (found : slice_get stack.devices.items number ≡ Some device)
    (copies : shape_of device.kind ≡ Copies) where
  -- the member at a place is a device that was declared before, and is as large at least
  pub leg_known : (k : ℕ) (m : DevId) → slice_get device.members.items k ≡ Some m
      → (m.0 < number) × (m.0 < length stack.devices.items) × (size (tree stack number) ≤ size (tree stack m.0))
  leg_known k m at_k =
      let below = (good.each number device found).below k m at_k in
      (below, omega (arith, slice_get_within stack.devices.items number device found), leg_size stack good number device found copies k m at_k)

  -- there is a choice, and it is the place of a member
  pub choice_there : (s : ℕ) (choices : List ℕ) → FitsWay (tree stack number) s choices
      → (1 ≤ length choices) × (get_or choices 0 0 < length device.members.items)
  choice_there s [] fits = absurd (leg_asked stack good number device found copies s fits)
  choice_there s (choice ∷ choices) fits = (omega arith, leg_chosen stack good number device found copies s choice choices fits)

  -- the member of the choice, and the other choices
  pub chosen_is : (s : ℕ) (choices : List ℕ) (m : DevId) → FitsWay (tree stack number) s choices
      → slice_get device.members.items (get_or choices 0 0) ≡ Some m
      → IsChosen stack number s choices m (take (length choices - 1) (drop 1 choices))
  chosen_is s [] m fits there = absurd (leg_asked stack good number device found copies s fits)
  chosen_is s (choice ∷ choices) m fits there =
      let known = leg_known choice m there in
      subst (IsChosen stack number s (choice ∷ choices) m) (sym (take_all (length (choice ∷ choices) - 1) choices (omega arith))) (record {
        below = known.0;
        known = known.1;
        inside = known.2;
        fits = leg_fits stack good number device found copies s choice choices m there fits;
        leads = leg_place stack good number device found copies s choice choices m there;
      })
