-- Devices that were accepted make a stack.
use Rattle.std.proofs.Common.{◌≡◌, ℕ, ◌<◌, List, [], ◌∷◌, length, get_or, map, sum, Some, refl, ap, ◌∙◌, sym, subst, arith}
use Rattle.std.specs.Prelude.{slice_get, IsTrue, nat_le}
use Rattle.std.specs.Option.{option_map}
use Rattle.std.proofs.lemmas.Bool.{and_parts, leb-true, eqb-true}
use Rattle.std.proofs.lemmas.List.{length-map}
use Rattle.std.proofs.lemmas.List.Sums.{sum_by-cons}
use Rattle.std.proofs.lemmas.Option.{slice_get-get_or, slice_get-map, slice_get_within, get_or_from_slice_get}
use Rattle.stack_base.specs.declared.ids.DevId.{DevId}
use Rattle.stack_base.specs.declared.stack.Kind.{Kind}
use Rattle.stack_base.specs.declared.stack.Kind.TheVariants as kind
use Rattle.stack_base.specs.declared.stack.Device.{Device}
use Rattle.stack_base.specs.declared.stack.Stack.{Stack}
use Rattle.stack_base.specs.Declaration.{own_sectors, IsDeclared}
use Rattle.stack_base.specs.Stack.{HasShape, IsMember, IsStack, KeepsSizes}
use Rattle.stack_base.specs.Tree.{Leaf, size}
use Rattle.stack_base.proofs.DeclaredBounds.{declared_stack}
use Rattle.decl_text.specs.Known.{Declared, sectors_of, trees}
use Rattle.decl_text.specs.Checks.{all_sectors, has_count}
use Rattle.decl_text.specs.Accepting.{declared_form, shown_devices, what_of_kind}
use Rattle.decl_text.proofs.ShownTrees.{shown_trees}
use Rattle.stack_check.specs.Sound.{AreSound, IsFit, HasNumbers}
use Rattle.stack_check.proofs.MembersOnce.{IsMemberOf, member_once}
use Rattle.stack_check.proofs.TreeLemmas.{trees_length}

-- what a list has at a place, seen otherwise
seen_at : {A B : Type 0} (f : A → B) (xs : List A) (i : ℕ) (x : A) → slice_get xs i ≡ Some x → slice_get (map f xs) i ≡ Some (f x)
seen_at f xs i x found = slice_get-map f xs i ∙ ap (option_map f) found

-- a device that takes its members has the shape of its kind
has_shape : (kind : Kind) (members : ℕ) → HasNumbers (what_of_kind kind) → IsTrue (has_count (what_of_kind kind) members) → HasShape kind members
has_shape (kind.Disk sectors bad) members numbers takes = eqb-true members 0 takes
has_shape kind.Linear members numbers takes =
    let parts = and_parts (nat_le 1 members) (nat_le members 8) takes in
    (leb-true 1 members parts.0, leb-true members 8 parts.1)
has_shape (kind.Stripe chunk) members numbers takes =
    let parts = and_parts (nat_le 1 members) (nat_le members 8) takes in
    (numbers, leb-true 1 members parts.0, leb-true members 8 parts.1)
has_shape (kind.Zoned chunk) members numbers takes =
    let parts = and_parts (nat_le 1 members) (nat_le members 8) takes in
    (numbers, leb-true 1 members parts.0, leb-true members 8 parts.1)
has_shape (kind.Limit longest chunk) members numbers takes = (numbers, eqb-true members 1 takes)
has_shape (kind.Mirror records) members numbers takes =
    let parts = and_parts (nat_le 1 members) (nat_le members 8) takes in
    (leb-true 1 members parts.0, leb-true members 8 parts.1)

own_is : (kind : Kind) → own_sectors kind ≡ sectors_of (what_of_kind kind)
own_is (kind.Disk sectors bad) = refl
own_is kind.Linear = refl
own_is (kind.Stripe chunk) = refl
own_is (kind.Zoned chunk) = refl
own_is (kind.Limit longest chunk) = refl
own_is (kind.Mirror records) = refl

all_own : (devices : List Device) → sum (map (λ (device : Device). own_sectors device.kind) devices) ≡ all_sectors (map declared_form devices)
all_own [] = refl
all_own (device ∷ devices) =
    omega (
      arith,
      sum_by-cons (λ (n : ℕ). n) (own_sectors device.kind) (map (λ (d : Device). own_sectors d.kind) devices),
      sum_by-cons (λ (d : Declared). sectors_of d.what) (declared_form device) (map declared_form devices),
      own_is device.kind,
      all_own devices,
    )

module _ (stack : Stack) (sound : AreSound (shown_devices stack)) where
  shown_at : (number : ℕ) (device : Device) → slice_get stack.devices.items number ≡ Some device → slice_get (shown_devices stack) number ≡ Some (declared_form device)
  shown_at number device found = seen_at declared_form stack.devices.items number device found

  goes_down : (number : ℕ) (device : Device) (i : ℕ) (m : DevId) → slice_get stack.devices.items number ≡ Some device → slice_get device.members.items i ≡ Some m → m.0 < number
  goes_down number device i m found is =
      sound.below number i m.0 (declared_form device) (shown_at number device found) (seen_at (λ (id : DevId). id.0) device.members.items i m is)

  shape_at : (number : ℕ) (device : Device) → slice_get stack.devices.items number ≡ Some device → HasShape device.kind (length device.members.items)
  shape_at number device found =
      let here = shown_at number device found in
      let fit : IsFit (declared_form device) =
      subst IsFit (get_or_from_slice_get (shown_devices stack) number (declared_form device) (declared_form device) here)
      (sound.fit number (declared_form device) (slice_get_within (shown_devices stack) number (declared_form device) here)) in
      has_shape device.kind (length device.members.items) fit.numbers
      (ap (has_count (what_of_kind device.kind)) (sym (length-map device.members.items (λ (id : DevId). id.0))) ∙ fit.count)

  member_shown : (d i m : ℕ) → IsMember stack d i m → IsMemberOf (shown_devices stack) d i m
  member_shown d i m one =
      (declared_form one.0, shown_at d one.0 one.1, seen_at (λ (id : DevId). id.0) one.0.members.items i (record { 0 = m }) one.2)

  is_declared : IsDeclared stack
  is_declared = record {
    few = omega (arith, sound.few, length-map stack.devices.items declared_form);
    below = goes_down;
    shape = shape_at;
    once = λ p q i j m one other. member_once (shown_devices stack) sound.once p q i j m (member_shown p i m one) (member_shown q j m other);
    disks = omega (arith, all_own stack.devices.items, sound.disks);
  }

  within : (number : ℕ) → number < length stack.devices.items → number < length (trees (shown_devices stack))
  within number lt = omega (arith, trees_length (shown_devices stack), length-map stack.devices.items declared_form)

  -- the sizes of the trees that were declared are those of the stack's
  keeps_sizes : stack.sizes.items ≡ map size (trees (shown_devices stack)) → KeepsSizes stack
  keeps_sizes are number lt =
      ap (λ (sizes : List ℕ). slice_get sizes number) are
      ∙ seen_at size (trees (shown_devices stack)) number (get_or (trees (shown_devices stack)) number (Leaf number 0))
      (slice_get-get_or (trees (shown_devices stack)) number (Leaf number 0) (within number lt))
      ∙ ap (λ tree. Some (size tree)) (shown_trees stack goes_down number lt)

  pub is_stack : stack.sizes.items ≡ map size (trees (shown_devices stack)) → IsStack stack
  is_stack are =
      declared_stack stack is_declared
      (λ number lt. omega (arith, sound.some number (Leaf number 0) (within number lt), ap size (shown_trees stack goes_down number lt)))
      (keeps_sizes are)
