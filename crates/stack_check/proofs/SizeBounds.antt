-- No device has more sectors than all disks together: a device is a member at most once, so each disk is counted once.
use Rattle.std.proofs.Common.{◌≡◌, ℕ, suc, ◌+◌, ◌*◌, ◌<◌, ◌≤◌, List, [], length, get_or, map, sum, sum_by, Option, None, Some, refl, ap, ◌∙◌, sym, inl, inr, arith}
use Rattle.std.specs.Prelude.{slice_get}
use Rattle.std.proofs.lemmas.List.{get_or_past}
use Rattle.std.proofs.lemmas.List.Sums.{sum-map, sum_by-le}
use Rattle.std.proofs.lemmas.Option.{slice_get_cases, slice_get-map, same_Some}
use Rattle.std.specs.Option.{option_map}
use Rattle.std.proofs.lemmas.Simd.{map-map}
use Rattle.std.proofs.lemmas.Bool.{cases_lt}
use Rattle.std.proofs.Math.Nat.{mul-le-mul_right}
use Rattle.stack_base.specs.declared.ids.DevId.{DevId}
use Rattle.stack_base.specs.Tree.{Leaf, size}
use Rattle.stack_base.proofs.DeclaredSums.{total_grows, total_of_list, value_of, value_le}
use Rattle.decl_text.specs.Known.{Declared, trees, tree_of, sectors_of}
use Rattle.stack_check.specs.Sound.{AreSound}
use Rattle.stack_check.proofs.TreeLemmas.{tree_at, trees_length, size-grown, what_size_le}
use Rattle.stack_check.proofs.MembersOnce.{IsMemberOf, member_once}

-- the device of a number
abbrev device_id : ℕ → DevId
device_id number = record { 0 = number }

-- the members of a device, if there is one
abbrev members_of : Option Declared → List DevId
members_of None = []
members_of (Some device) = map device_id device.members

id_from : (o : Option ℕ) (m : DevId) → option_map device_id o ≡ Some m → o ≡ Some m.0
id_from None m is = absurd (grind arith)
id_from (Some n) m is = ap (λ k. Some k) (ap (λ (id : DevId). id.0) (same_Some (device_id n) m is))

member_from : (o : Option Declared) (i : ℕ) (m : DevId) → slice_get (members_of o) i ≡ Some m → (device : Declared) × (o ≡ Some device) × (slice_get device.members i ≡ Some m.0)
member_from None i m is = absurd (grind arith)
member_from (Some device) i m is = (device, refl, id_from (slice_get device.members i) m (sym (slice_get-map device_id device.members i) ∙ is))

module _ (devices : List Declared) (sound : AreSound devices) where
  abbrev members_at : ℕ → List DevId
  members_at number = members_of (slice_get devices number)

  is_member : (p i : ℕ) (m : DevId) → slice_get (members_at p) i ≡ Some m → IsMemberOf devices p i m.0
  is_member p i m is = member_from (slice_get devices p) i m is

  abbrev size_at : ℕ → ℕ
  size_at p = size (tree_of devices p)

  -- a device is no larger than what it brings and its members
  size_le :
      (p : ℕ) → size_at p ≤ value_of (λ (device : Declared). sectors_of device.what) (slice_get devices p) + sum_by (λ (m : DevId). size_at m.0) (members_at p)
  size_le p = elim (slice_get_cases devices p).1 [
    | inl found ↦
        let device = found.0 in
        let below : (i m : ℕ) → slice_get device.members i ≡ Some m → m < p = λ i m is. sound.below p i m device found.2 is in
        omega (
          arith,
          ap size (tree_at devices p device found.2 below),
          size-grown p device.what (map (tree_of devices) device.members),
          what_size_le device.what (map size (map (tree_of devices) device.members)),
          ap sum (map-map size (tree_of devices) device.members),
          ap sum (map-map (λ (m : DevId). size_at m.0) device_id device.members),
          sum-map (λ (m : DevId). size_at m.0) (map device_id device.members),
          ap (value_of (λ (d : Declared). sectors_of d.what)) found.2,
          ap (λ (o : Option Declared). sum_by (λ (m : DevId). size_at m.0) (members_of o)) found.2,
        )
    | inr past ↦ omega (arith, ap size (get_or_past (trees devices) p (Leaf p 0) (omega (arith, trees_length devices, past.0))))
  ]

  -- so none is larger than all disks
  pub size_small : (p : ℕ) → size_at p ≤ 262144
  size_small p = elim (cases_lt p (length devices)) [
    | inl within ↦
        let own = λ (q : ℕ). value_of (λ (device : Declared). sectors_of device.what) (slice_get devices q) in
        omega (
          arith,
          value_le members_at
              (λ q r i j m one other. member_once devices sound.once q r i j m.0 (is_member q i m one) (is_member r j m other))
              (λ q i m is. let from = is_member q i m is in sound.below q i m.0 from.0 from.1 from.2)
              size_at own p (λ q lt. size_le q),
          total_grows own (suc p) (length devices) (omega arith),
          total_of_list (λ (device : Declared). sectors_of device.what) devices,
          sound.disks,
        )
    | inr past ↦ omega (arith, ap size (get_or_past (trees devices) p (Leaf p 0) (omega (arith, trees_length devices, past))))
  ]

  -- the sizes of at most eight devices fit together
  pub sizes_sum : (sizes members : List ℕ) → length members ≤ 8 → sizes ≡ map (λ m. size_at m) members → sum sizes ≤ 8 * 262144
  sizes_sum sizes members few is =
      omega (arith, ap sum is, sum-map size_at members, sum_by-le size_at 262144 members (λ i d lt. size_small (get_or members i d)), mul-le-mul_right 262144 few)
