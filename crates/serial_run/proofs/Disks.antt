-- The disks of one thread stand in the order of the devices.
use Rattle.std.proofs.Common.{◌≡◌, ◌≢◌, ◌+◌, ◌<◌, ◌&&◌, if◌then◌else◌, ℕ, zero, suc, Bool, true, false, true≢false, List, [], ◌∷◌, length, map, filter, find, Some, refl, sym, ap, ◌∙◌, arith}
use Rattle.std.specs.Prelude.{slice_get}
use Rattle.std.specs.List.{range_with_len}
use Rattle.std.specs.Option.{option_map_or}
use Rattle.std.proofs.lemmas.Bool.{eq-eqb, ne_eqb, lt-ltb}
use Rattle.std.proofs.lemmas.List.{map-id}
use Rattle.std.proofs.lemmas.Simd.{map-map}
use Rattle.std.proofs.lemmas.Option.{slice_get_within}
use Rattle.stack_base.specs.declared.ids.DevId.{DevId}
use Rattle.stack_base.specs.declared.stack.Device.{Device}
use Rattle.stack_base.specs.declared.stack.Stack.{Stack}
use Rattle.stack_base.specs.Tree.{tree}
use Rattle.stack_base.proofs.Unfolded.{tree_is}
use Rattle.task_core.specs.declared.plain.Plain.{Plain}
use Rattle.task_core.specs.Leaving.{disks_from, disks_of}
use Rattle.run_machine.specs.Named.{is_disk_kind}
use Rattle.run_machine.specs.Opened.{device_at, opened_disk}
use Rattle.task_core.specs.Plains.{disk_number, objects_of, stage_of, Holds}
use Rattle.run_machine.specs.Scene.{keeps_data}
use Rattle.task_steps.specs.Stage.{has_disk}
use Rattle.task_core.specs.Tables.{is_entry_of, look_up}
use Rattle.task_core.proofs.DisksOfKinds.{disks_found, keeps_by}

-- the numbers of disks, device by device
numbers : (is : ℕ → Bool) (n : ℕ) (devices : List Device)
    → ((i : ℕ) (device : Device) → slice_get devices i ≡ Some device → is (n + i) ≡ is_disk_kind device.kind)
    → filter is (range_with_len n (length devices)) ≡ map (λ (dev : DevId). dev.0) (disks_from n devices)
numbers is n devices each =
    let found = filter is (range_with_len n (length devices)) in
    sym (ap (map (λ (dev : DevId). dev.0)) (disks_found is n devices each) ∙ map-map (λ (dev : DevId). dev.0) device_at found ∙ map-id found)

-- what is found under the numbers of entries that rise
abbrev first : List ℕ → ℕ
first [] = 0
first (n ∷ ns) = n

abbrev others : List ℕ → List ℕ
others [] = []
others (n ∷ ns) = ns

abbrev is_empty : List ℕ → Bool
is_empty [] = true
is_empty (n ∷ ns) = false

module _ {E : Type 0} (key : E → ℕ) (none : ℕ → E) (is : ℕ → Bool) where
  abbrev at_number : List E → ℕ → E
  at_number entries = look_up key (λ entry. entry) none entries

  found_first : (entry : E) (entries : List E) (n : ℕ) → key entry ≡ n → at_number (entry ∷ entries) n ≡ entry
  found_first entry entries n e =
      ap (λ b. option_map_or (λ (entry : E). entry) (if b then Some entry else find (is_entry_of key n) entries) (none n)) (eq-eqb (key entry) n e)

  found_later : (entry : E) (entries : List E) (n : ℕ) → key entry ≢ n → at_number (entry ∷ entries) n ≡ at_number entries n
  found_later entry entries n apart =
      ap (λ b. option_map_or (λ (entry : E). entry) (if b then Some entry else find (is_entry_of key n) entries) (none n)) (ne_eqb (key entry) n apart)

  all_later : (entry : E) (entries : List E) (count n : ℕ) → key entry < n
      → map (at_number (entry ∷ entries)) (filter is (range_with_len n count)) ≡ map (at_number entries) (filter is (range_with_len n count))
  all_later entry entries zero n lt = refl
  all_later entry entries (suc count) n lt = by_test (is n) (all_later entry entries count (n + 1) (omega (arith, lt)))
    where
      rest : List ℕ
      rest = filter is (range_with_len (n + 1) count)

      apart : key entry ≢ n
      apart e = omega (arith, lt, e)

      by_test : (b : Bool) → map (at_number (entry ∷ entries)) rest ≡ map (at_number entries) rest
          → map (at_number (entry ∷ entries)) (if b then n ∷ rest else rest) ≡ map (at_number entries) (if b then n ∷ rest else rest)
      by_test true alike = ap (λ e. e ∷ map (at_number (entry ∷ entries)) rest) (found_later entry entries n apart) ∙ ap (λ es. at_number entries n ∷ es) alike
      by_test false same = same

  -- are the entries themselves
  pub found_all : (count n : ℕ) (entries : List E) → map key entries ≡ filter is (range_with_len n count)
      → map (at_number entries) (filter is (range_with_len n count)) ≡ entries
  found_all zero n [] keys = refl
  found_all zero n (entry ∷ entries) keys = absurd (true≢false (sym (ap is_empty keys)))
  found_all (suc count) n entries keys = by_test (is n) entries keys (λ more keyed. found_all count (n + 1) more keyed)
    where
      rest : List ℕ
      rest = filter is (range_with_len (n + 1) count)

      by_test : (b : Bool) (entries : List E) → map key entries ≡ (if b then n ∷ rest else rest)
          → ((more : List E) → map key more ≡ rest → map (at_number more) rest ≡ more) → map (at_number entries) (if b then n ∷ rest else rest) ≡ entries
      by_test false entries keys on = on entries keys
      by_test true [] keys on = absurd (true≢false (ap is_empty keys))
      by_test true (entry ∷ entries) keys on =
          let here : key entry ≡ n = ap first keys in
          let rises : key entry < n + 1 = omega (arith, here) in
          ap (λ e. e ∷ map (at_number (entry ∷ entries)) rest) (found_first entry entries n here)
          ∙ ap (λ es. entry ∷ es) (all_later entry entries count (n + 1) rises ∙ on entries (ap others keys))

-- so the disks are those of the devices, one after the other
module _ (plain : Plain) (holds : Holds plain) where
  abbrev stack : Stack
  stack = plain.stage.value.stack

  abbrev is_disk_at : ℕ → Bool
  is_disk_at dev = has_disk (stage_of plain) (device_at dev)

  kinds : (i : ℕ) (device : Device) → slice_get stack.devices.items i ≡ Some device → is_disk_at (0 + i) ≡ is_disk_kind device.kind
  kinds i device found =
      let same : 0 + i ≡ i = omega arith in
      ap is_disk_at same ∙ ap (λ b. b && keeps_data (tree stack i)) (lt-ltb i (length stack.devices.items) (slice_get_within stack.devices.items i device found))
      ∙ ap keeps_data (tree_is stack holds.stack_is i device found) ∙ keeps_by i device.kind (map (λ (m : DevId). tree stack m.0) device.members.items)

  pub disks_in_order : plain.disks.items ≡ map (λ (dev : DevId). (objects_of plain).disk dev.0) (disks_of stack)
  disks_in_order =
      sym (
      sym (map-map (objects_of plain).disk (λ (dev : DevId). dev.0) (disks_of stack))
      ∙ ap (map (objects_of plain).disk) (sym (numbers is_disk_at 0 stack.devices.items kinds))
      ∙ found_all disk_number (opened_disk stack) is_disk_at (length stack.devices.items) 0 plain.disks.items holds.entered.order
      )
