-- Which sets have rescuers does not matter to the shape of a stack.
use Rattle.std.proofs.Common.{◌≡◌, ◌+◌, ◌≤◌, ℕ, zero, suc, List, [], ◌∷◌, length, map, refl, sym, ap, ◌∙◌, subst, arith, Option, None, Some, option_map}
use Rattle.std.specs.Prelude.{slice_get, slice_set}
use Rattle.std.proofs.lemmas.Option.{same_Some}
use Rattle.stack_base.specs.declared.ids.DevId.{DevId}
use Rattle.stack_base.specs.declared.stack.Kind.{Kind}
use Rattle.stack_base.specs.declared.stack.Device.{Device}
use Rattle.stack_base.specs.declared.stack.Stack.{Stack}
use Rattle.stack_base.specs.Stack.{HasShape, IsMember, IsStack}
use Rattle.stack_base.specs.Tree.{Tree, built, over, size, tree_below, most_begun}

-- what a device is by kind and members
abbrev pub Bare : Type 0
Bare = Kind × List DevId

abbrev pub bare : Device → Bare
bare device = (device.kind, device.members.items)

abbrev AreAlike : Stack → Stack → Type 0
AreAlike old new = (number : ℕ) → option_map bare (slice_get new.devices.items number) ≡ option_map bare (slice_get old.devices.items number)

built_same : (number : ℕ) (a b : Option Device) (f g : ℕ → Tree) → option_map bare a ≡ option_map bare b → ((m : ℕ) → f m ≡ g m) → built number a f ≡ built number b g
built_same number None None f g same below = refl
built_same number None (Some y) f g same below = absurd cc
built_same number (Some x) None f g same below = absurd cc
built_same number (Some x) (Some y) f g same below =
    let p = same_Some (bare x) (bare y) same in
    λ k. over number (p k).0 (map (λ (m : DevId). below m.0 k) (p k).1)

below_same : (old new : Stack) → AreAlike old new → (bound number : ℕ) → tree_below bound new number ≡ tree_below bound old number
unfolding tree_below
below_same old new alike zero number = refl
below_same old new alike (suc bound) number =
    built_same number (slice_get new.devices.items number) (slice_get old.devices.items number) (tree_below bound new) (tree_below bound old) (alike number)
    (below_same old new alike bound)

no_device : {b : Bare} → Some b ≡ None → ⊥
no_device e = cc

-- the device that it was
record Was (old : Stack) (number : ℕ) (device : Device) : Type 0 where
  before : Device
  found : slice_get old.devices.items number ≡ Some before
  same : bare device ≡ bare before

was : (old new : Stack) → AreAlike old new → (number : ℕ) (device : Device) → slice_get new.devices.items number ≡ Some device → Was old number device
was old new alike number device found = by (slice_get old.devices.items number) refl
  where
    by : (o : Option Device) → slice_get old.devices.items number ≡ o → Was old number device
    by None is = absurd (no_device (sym (ap (option_map bare) found) ∙ alike number ∙ ap (option_map bare) is))
    by (Some before) is = record {
      before = before;
      found = is;
      same = same_Some (bare device) (bare before) (sym (ap (option_map bare) found) ∙ alike number ∙ ap (option_map bare) is);
    }

pub stays_stack : (old new : Stack) → length new.devices.items ≡ length old.devices.items → new.sizes.items ≡ old.sizes.items → AreAlike old new → IsStack old → IsStack new
stays_stack old new long kept alike is = record {
  few = omega (arith, long, is.few);
  each = λ number device found.
      let w = was old new alike number device found in
      let d = is.each number w.before w.found in
      let members = ap (λ (b : Bare). b.1) w.same in
      let same = below_same old new alike (number + 1) number in
      record {
        below = λ i m at. d.below i m (ap (λ (ms : List DevId). slice_get ms i) (sym members) ∙ at);
        shape = subst (λ (b : Bare). HasShape b.0 (length b.1)) (sym w.same) d.shape;
        some = subst (λ t. 1 ≤ size t) (sym same) d.some;
        small = subst (λ t. size t ≤ 262144) (sym same) d.small;
        narrow = subst (λ t. most_begun t ≤ 288) (sym same) d.narrow;
      };
  once = λ p q i j m one other. is.once p q i j m (member p i m one) (member q j m other);
  sizes = λ number lt.
      ap (λ (sizes : List ℕ). slice_get sizes number) kept ∙ is.sizes number (omega (arith, long, lt))
      ∙ ap (λ t. Some (size t)) (sym (below_same old new alike (number + 1) number));
}
  where
    member : (d i m : ℕ) → IsMember new d i m → IsMember old d i m
    member d i m at =
        let w = was old new alike d at.0 at.1 in
        (w.before, w.found, ap (λ (b : Bare). slice_get b.1 i) (sym w.same) ∙ at.2)

-- a device with another rescuer
pub alike_set : (devices : List Device) (at : ℕ) (device : Device) → option_map bare (slice_get devices at) ≡ Some (bare device)
    → (number : ℕ) → option_map bare (slice_get (slice_set devices at device) number) ≡ option_map bare (slice_get devices number)
alike_set [] at device is number = refl
alike_set (x ∷ xs) zero device is zero = sym is
alike_set (x ∷ xs) zero device is (suc number) = refl
alike_set (x ∷ xs) (suc at) device is zero = refl
alike_set (x ∷ xs) (suc at) device is (suc number) = alike_set xs at device is number
