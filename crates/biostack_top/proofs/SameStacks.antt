-- Two stacks that the same declarations mean have the same devices, whatever else their values hold.
use Rattle.std.proofs.Common.{◌≡◌, ◌+◌, ℕ, zero, suc, false, List, [], length, map, Option, None, Some, refl, sym, ap, ◌∙◌}
use Rattle.std.specs.Prelude.{slice_get}
use Rattle.std.specs.Option.{option_map, option_map_or}
use Rattle.std.proofs.lemmas.List.{length-map}
use Rattle.std.proofs.lemmas.Option.{slice_get-map}
use Rattle.std.proofs.lemmas.Simd.{map-map}
use Rattle.fail_script.specs.Script.{Answers}
use Rattle.stack_base.specs.declared.ids.DevId.{DevId}
use Rattle.stack_base.specs.declared.ids.PoolId.{PoolId}
use Rattle.stack_base.specs.declared.ids.PoolId.TheVariants.{FsBios, FsVecs, Bios, Records}
use Rattle.stack_base.specs.declared.stack.Kind.{Kind}
use Rattle.stack_base.specs.declared.stack.Kind.TheVariants.{Disk, Linear, Stripe, Zoned, Limit, Mirror}
use Rattle.stack_base.specs.declared.stack.Device.{Device}
use Rattle.stack_base.specs.declared.stack.Stack.{Stack}
use Rattle.stack_base.specs.Tree.{Tree, Leaf, built, over, tree, tree_below}
use Rattle.stack_base.specs.Fault.{bads_of_kind}
use Rattle.layout_model.specs.May.{bads_of}
use Rattle.decl_text.specs.Accepting.{MeansStack, bad_ranges, declared_form, what_of_kind}
use Rattle.decl_text.specs.Known.{Declared, Declarations, device_tree}
use Rattle.decl_text.specs.declared.item.What.{What}
use Rattle.decl_text.specs.declared.item.What.TheVariants as what
use Rattle.decl_text.proofs.ShownTrees.{grown_over}
use Rattle.run_machine.specs.Opened.{records_of, reserve_of}
use Rattle.run_machine.specs.Scene.{rescuer_at}

-- what is told of a device by its declaration
of_declared : {A : Type 0} (f : Device → A) (g : Declared → A) (none : A) → ((d : Device) → f d ≡ g (declared_form d)) → (found : Option Device)
    → option_map_or f found none ≡ option_map_or g (option_map declared_form found) none
of_declared f g none same None = refl
of_declared f g none same (Some d) = same d

rescuer_is : (found : Option Device) → rescuer_at found ≡ option_map_or (λ (d : Device). d.rescuer) found false
rescuer_is None = refl
rescuer_is (Some d) = refl

built_is : (number : ℕ) (below : ℕ → Tree) (found : Option Device)
    → built number found below ≡ option_map_or (λ (d : Device). over number d.kind (map (λ (m : DevId). below m.0) d.members.items)) found (Leaf number 0)
built_is number below None = refl
built_is number below (Some d) = refl

-- the reserve of records that a declaration tells
abbrev records_in : What → ℕ
records_in (what.Mirror records) = records
records_in (what.Disk sectors) = 0
records_in what.Linear = 0
records_in (what.Stripe chunk) = 0
records_in (what.Zoned chunk) = 0
records_in (what.Limit longest chunk) = 0

records_are : (kind : Kind) → records_of kind ≡ records_in (what_of_kind kind)
records_are (Disk sectors bad) = refl
records_are Linear = refl
records_are (Stripe chunk) = refl
records_are (Zoned chunk) = refl
records_are (Limit longest chunk) = refl
records_are (Mirror records) = refl

-- the bad ranges of a device are those of its lines
bads_told : (known : Declarations) (stack : Stack) (scripts : List (PoolId × Answers)) → MeansStack known stack scripts → (number : ℕ)
    → bads_of stack number ≡ option_map_or (λ (d : Device). bad_ranges known number) (slice_get stack.devices.items number) []
bads_told known stack scripts means number = by (slice_get stack.devices.items number) refl
  where
    by : (found : Option Device) → slice_get stack.devices.items number ≡ found
        → option_map_or (λ (d : Device). bads_of_kind d.kind) found [] ≡ option_map_or (λ (d : Device). bad_ranges known number) found []
    by None is = refl
    by (Some d) is = means.bad number d is

module _ (known : Declarations) (one other : Stack) (one_scripts other_scripts : List (PoolId × Answers)) (a : MeansStack known one one_scripts) (b : MeansStack known other other_scripts) where
  declared_at : (number : ℕ) → option_map declared_form (slice_get one.devices.items number) ≡ option_map declared_form (slice_get other.devices.items number)
  declared_at number =
      sym (slice_get-map declared_form one.devices.items number) ∙ ap (λ (ds : List Declared). slice_get ds number) (a.devices ∙ sym b.devices)
      ∙ slice_get-map declared_form other.devices.items number

  pub same_of : {A : Type 0} (f : Device → A) (g : Declared → A) (none : A) → ((d : Device) → f d ≡ g (declared_form d)) → (number : ℕ)
      → option_map_or f (slice_get one.devices.items number) none ≡ option_map_or f (slice_get other.devices.items number) none
  same_of f g none same number =
      of_declared f g none same (slice_get one.devices.items number) ∙ ap (λ (o : Option Declared). option_map_or g o none) (declared_at number)
      ∙ sym (of_declared f g none same (slice_get other.devices.items number))

  pub same_count : length one.devices.items ≡ length other.devices.items
  same_count = sym (length-map one.devices.items declared_form) ∙ ap (λ (ds : List Declared). length ds) (a.devices ∙ sym b.devices) ∙ length-map other.devices.items declared_form

  pub same_rescuer : (number : ℕ) → rescuer_at (slice_get one.devices.items number) ≡ rescuer_at (slice_get other.devices.items number)
  same_rescuer number =
      rescuer_is (slice_get one.devices.items number)
      ∙ same_of (λ (d : Device). d.rescuer) (λ (d : Declared). d.rescuer) false (λ d. refl) number
      ∙ sym (rescuer_is (slice_get other.devices.items number))

  same_built : (number : ℕ) (below : ℕ → Tree) → built number (slice_get one.devices.items number) below ≡ built number (slice_get other.devices.items number) below
  same_built number below =
      built_is number below (slice_get one.devices.items number)
      ∙ same_of (λ (d : Device). over number d.kind (map (λ (m : DevId). below m.0) d.members.items)) (λ (d : Declared). device_tree number d.what (map below d.members)) (Leaf number 0)
      (λ d. sym (grown_over number d.kind (map (λ (m : DevId). below m.0) d.members.items))
      ∙ ap (device_tree number (what_of_kind d.kind)) (sym (map-map below (λ (m : DevId). m.0) d.members.items))) number
      ∙ sym (built_is number below (slice_get other.devices.items number))

  same_below : (bound number : ℕ) → tree_below bound one number ≡ tree_below bound other number
  unfolding tree_below
  same_below zero number = refl
  same_below (suc bound) number =
      ap (built number (slice_get one.devices.items number)) (λ k v. same_below bound v k) ∙ same_built number (tree_below bound other)

  pub same_tree : tree one ≡ tree other
  same_tree = λ k number. same_below (number + 1) number k

  pub same_bads : (number : ℕ) → bads_of one number ≡ bads_of other number
  same_bads number =
      bads_told known one one_scripts a number
      ∙ same_of (λ (d : Device). bad_ranges known number) (λ (d : Declared). bad_ranges known number) [] (λ d. refl) number
      ∙ sym (bads_told known other other_scripts b number)

  pub same_reserve : (pool : PoolId) → reserve_of one pool ≡ reserve_of other pool
  same_reserve FsBios = a.fs_bios ∙ sym b.fs_bios
  same_reserve FsVecs = a.fs_vecs ∙ sym b.fs_vecs
  same_reserve (Bios dev) = same_of (λ (d : Device). d.reserve) (λ (d : Declared). d.reserve) 0 (λ d. refl) dev.0
  same_reserve (Records dev) = same_of (λ (d : Device). records_of d.kind) (λ (d : Declared). records_in d.what) 0 (λ d. records_are d.kind) dev.0
