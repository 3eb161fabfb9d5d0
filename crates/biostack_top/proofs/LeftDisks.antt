-- The disks that a run leaves are found by their numbers.
use Rattle.std.proofs.Common.{◌≡◌, ◌==◌, ◌+◌, ◌<◌, ◌++◌, ℕ, zero, suc, true, false, List, [], ◌∷◌, map, Some, refl, sym, ap, ◌∙◌, subst, arith}
use Rattle.std.specs.Prelude.{find, slice_get}
use Rattle.std.proofs.lemmas.Bool.Decides.{nat_tests}
use Rattle.std.proofs.lemmas.Option.{same_Some}
use Rattle.stack_base.specs.declared.ids.DevId.{DevId}
use Rattle.stack_base.specs.declared.stack.Device.{Device}
use Rattle.stack_base.specs.declared.stack.Kind.{Kind}
use Rattle.stack_base.specs.declared.stack.Kind.TheVariants.{Disk, Linear, Stripe, Zoned, Limit, Mirror}
use Rattle.stack_base.specs.declared.stack.Stack.{Stack}
use Rattle.stack_base.specs.Stack.{IsStack}
use Rattle.stack_base.specs.Tree.{shape_of, tree}
use Rattle.layout_model.specs.Shown.{keeps_data}
use Rattle.layout_model.proofs.ByShape.{copies_is, cuts_is}
use Rattle.model_disks.specs.Disks.{DiskState}
use Rattle.run_machine.specs.Named.{is_disk_kind}
use Rattle.run_machine.specs.Objects.{Objects}
use Rattle.run_machine.specs.Opened.{device_at}
use Rattle.task_core.specs.Leaving.{disk_at, disks_from, disks_of}

-- a device that keeps data itself is declared as a disk
module _ (stack : Stack) (good : IsStack stack) (number : ℕ) (device : Device) (found : slice_get stack.devices.items number ≡ Some device) where
  by_kind : (kind : Kind) → device.kind ≡ kind → keeps_data (tree stack number) ≡ true → is_disk_kind kind ≡ true
  by_kind (Disk sectors bad) is keeps = refl
  by_kind Linear is keeps = sym (ap keeps_data (cuts_is stack good number device found (ap shape_of is))) ∙ keeps
  by_kind (Stripe chunk) is keeps = sym (ap keeps_data (cuts_is stack good number device found (ap shape_of is))) ∙ keeps
  by_kind (Zoned chunk) is keeps = sym (ap keeps_data (cuts_is stack good number device found (ap shape_of is))) ∙ keeps
  by_kind (Limit longest chunk) is keeps = sym (ap keeps_data (cuts_is stack good number device found (ap shape_of is))) ∙ keeps
  by_kind (Mirror records) is keeps = sym (ap keeps_data (copies_is stack good number device found (ap shape_of is))) ∙ keeps

  pub declared_disk : keeps_data (tree stack number) ≡ true → is_disk_kind device.kind ≡ true
  declared_disk keeps = by_kind device.kind refl keeps

module _ (objects : Objects) (named : (number : ℕ) → (objects.disk number).dev ≡ device_at number) where
  -- a device with another number is passed over
  passes : (kind : Kind) (number target : ℕ) (others : List DevId) → number < target
      → find (λ (disk : DiskState). disk.dev.0 == target) (map (λ (dev : DevId). objects.disk dev.0) (disk_at number kind ++ others))
      ≡ find (λ (disk : DiskState). disk.dev.0 == target) (map (λ (dev : DevId). objects.disk dev.0) others)
  passes (Disk sectors bad) number target others lt =
      let other : ((objects.disk number).dev.0 == target) ≡ false =
      ap (λ (dev : DevId). dev.0 == target) (named number) ∙ grind (arith, nat_tests, lt) in
      rw other refl
  passes Linear number target others lt = refl
  passes (Stripe chunk) number target others lt = refl
  passes (Zoned chunk) number target others lt = refl
  passes (Limit longest chunk) number target others lt = refl
  passes (Mirror records) number target others lt = refl

  -- the first of these devices is found if it is a disk
  here : (kind : Kind) (number : ℕ) (others : List DevId) → is_disk_kind kind ≡ true
      → find (λ (disk : DiskState). disk.dev.0 == number) (map (λ (dev : DevId). objects.disk dev.0) (disk_at number kind ++ others)) ≡ Some (objects.disk number)
  here (Disk sectors bad) number others is =
      let same : ((objects.disk number).dev.0 == number) ≡ true =
      ap (λ (dev : DevId). dev.0 == number) (named number) ∙ grind (arith, nat_tests) in
      rw same refl
  here Linear number others is = cc is
  here (Stripe chunk) number others is = cc is
  here (Zoned chunk) number others is = cc is
  here (Limit longest chunk) number others is = cc is
  here (Mirror records) number others is = cc is

  found_from : (start : ℕ) (devices : List Device) (i : ℕ) (device : Device) → slice_get devices i ≡ Some device → is_disk_kind device.kind ≡ true
      → (number : ℕ) → number ≡ start + i
      → find (λ (disk : DiskState). disk.dev.0 == number) (map (λ (dev : DevId). objects.disk dev.0) (disks_from start devices)) ≡ Some (objects.disk number)
  unfolding disks_from
  found_from start [] i device found is number at_place = cc found
  found_from start (first ∷ others) zero device found is number at_place =
      let same : first ≡ device = same_Some first device found in
      let begins : start ≡ number = omega (arith, at_place) in
      subst (λ (n : ℕ). find (λ (disk : DiskState). disk.dev.0 == number) (map (λ (dev : DevId). objects.disk dev.0) (disk_at n first.kind ++ disks_from (n + 1) others)) ≡ Some (objects.disk number))
      (sym begins) (here first.kind number (disks_from (number + 1) others) (ap (λ (d : Device). is_disk_kind d.kind) same ∙ is))
  found_from start (first ∷ others) (suc i) device found is number at_place =
      passes first.kind start number (disks_from (start + 1) others) (omega (arith, at_place))
      ∙ found_from (start + 1) others i device found is number (omega (arith, at_place))

  pub left_disk : (stack : Stack) → IsStack stack → (number : ℕ) (device : Device) → slice_get stack.devices.items number ≡ Some device
      → keeps_data (tree stack number) ≡ true
      → find (λ (disk : DiskState). disk.dev.0 == number) (map (λ (dev : DevId). objects.disk dev.0) (disks_of stack)) ≡ Some (objects.disk number)
  left_disk stack good number device found keeps =
      found_from 0 stack.devices.items number device found (declared_disk stack good number device found keeps) number (omega arith)
