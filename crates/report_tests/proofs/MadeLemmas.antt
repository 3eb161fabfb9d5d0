-- The disks and the pools of two disks, a mirror and a limit.
use Rattle.std.proofs.Common.{◌≡◌, ℕ, List, [], ◌∷◌, refl}
use Rattle.stack_base.specs.declared.ids.Bad.{Bad}
use Rattle.std.specs.Global.{Vec}
use Rattle.stack_base.specs.declared.ids.PoolId.TheVariants.{Bios, Records}
use Rattle.stack_base.specs.declared.stack.Kind.TheVariants.{Disk, Limit, Mirror}
use Rattle.stack_base.specs.declared.stack.Device.{Device}
use Rattle.report_text.specs.Pools.{device_at, disks_from, falling_from}

module _ (devices : List Device) (a b m l : Device) (are : devices ≡ a ∷ b ∷ m ∷ l ∷ []) (sectors size records most chunk : ℕ) (bad worse : Vec Bad)
    (is_a : a.kind ≡ Disk sectors bad) (is_b : b.kind ≡ Disk size worse) (is_m : m.kind ≡ Mirror records) (is_l : l.kind ≡ Limit most chunk) where
  pub two_disks : disks_from 0 devices ≡ device_at 0 ∷ device_at 1 ∷ []
  unfolding disks_from
  two_disks = rw (are, is_a, is_b, is_m, is_l) refl

  pub three_pools : falling_from 0 devices ≡ Bios (device_at 3) ∷ Records (device_at 2) ∷ Bios (device_at 2) ∷ []
  unfolding falling_from
  three_pools = rw (are, is_a, is_b, is_m, is_l) refl
