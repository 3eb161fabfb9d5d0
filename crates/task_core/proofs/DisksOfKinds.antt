-- Which devices are disks, by their kinds.
use Rattle.std.proofs.Common.{◌≡◌, ◌+◌, ◌++◌, cond, ℕ, suc, Bool, true, false, List, [], ◌∷◌, length, map, filter, Some, refl, sym, ap, ◌∙◌, subst, arith}
use Rattle.std.specs.Prelude.{slice_get}
use Rattle.std.specs.List.{range_with_len}
use Rattle.stack_base.specs.declared.ids.DevId.{DevId}
use Rattle.stack_base.specs.declared.stack.Device.{Device}
use Rattle.stack_base.specs.declared.stack.Kind.{Kind}
use Rattle.stack_base.specs.declared.stack.Kind.TheVariants as kind
use Rattle.stack_base.specs.Tree.{Tree, over, over_shape}
use Rattle.run_machine.specs.Named as kinds
use Rattle.run_machine.specs.Opened.{device_at}
use Rattle.run_machine.specs.Scene.{keeps_data}
use Rattle.task_core.specs.Leaving.{disk_at, disks_from}

-- whether a device keeps data, by its kind
pub keeps_by : (n : ℕ) (k : Kind) (trees : List Tree) → keeps_data (over n k trees) ≡ kinds.is_disk_kind k
unfolding over_shape
keeps_by n (kind.Disk sectors bad) trees = refl
keeps_by n kind.Linear trees = refl
keeps_by n (kind.Stripe chunk) trees = refl
keeps_by n (kind.Zoned chunk) trees = refl
keeps_by n (kind.Limit longest chunk) trees = refl
keeps_by n (kind.Mirror records) trees = refl

-- the disks of devices are those that tests find
pub disks_found : (is : ℕ → Bool) (n : ℕ) (devices : List Device)
    → ((i : ℕ) (device : Device) → slice_get devices i ≡ Some device → is (n + i) ≡ kinds.is_disk_kind device.kind)
    → disks_from n devices ≡ map device_at (filter is (range_with_len n (length devices)))
unfolding disks_from
disks_found is n [] each = refl
disks_found is n (device ∷ more) each =
    by_kind device.kind (is n) (ap is same ∙ each 0 device refl)
    (disks_found is (n + 1) more (λ i d found. let next : n + 1 + i ≡ n + suc i = omega arith in ap is next ∙ each (suc i) d found))
  where
    same : n ≡ n + 0
    same = omega arith

    rest : List ℕ
    rest = filter is (range_with_len (n + 1) (length more))

    with_test : (b c : Bool) → b ≡ c → {ds : List DevId} → ds ≡ map device_at (cond c (n ∷ rest) rest) → ds ≡ map device_at (cond b (n ∷ rest) rest)
    with_test b c is {ds} alike = subst (λ (b : Bool). ds ≡ map device_at (cond b (n ∷ rest) rest)) (sym is) alike

    by_kind : (k : Kind) (b : Bool) → b ≡ kinds.is_disk_kind k → disks_from (n + 1) more ≡ map device_at rest → disk_at n k ++ disks_from (n + 1) more ≡ map device_at (cond b (n ∷ rest) rest)
    by_kind (kind.Disk sectors bad) b is rests = with_test b true is (ap (λ ds. device_at n ∷ ds) rests)
    by_kind kind.Linear b is rests = with_test b false is rests
    by_kind (kind.Stripe chunk) b is rests = with_test b false is rests
    by_kind (kind.Zoned chunk) b is rests = with_test b false is rests
    by_kind (kind.Limit longest chunk) b is rests = with_test b false is rests
    by_kind (kind.Mirror records) b is rests = with_test b false is rests
