-- Disks, sets and mirrors, device by device, and the pools of all devices by falling number.
use Rattle.std.proofs.Common.{◌≡◌, ◌+◌, ◌≤◌, ◌++◌, ◌&&◌, not, cond, ℕ, zero, suc, Bool, true, false, List, [], ◌∷◌, length, map, filter, Some, refl, sym, ap, ◌∙◌, arith, ◌⊎◌, inl, inr}
use Rattle.std.specs.Prelude.{slice_get}
use Rattle.std.specs.List.{range_with_len}
use Rattle.std.proofs.lemmas.Bool.{lt-ltb, le-ltb}
use Rattle.std.proofs.lemmas.List.{append_assoc, append-nil, map-append}
use Rattle.std.proofs.lemmas.Option.{slice_get_within}
use Rattle.stack_base.specs.declared.ids.DevId.{DevId}
use Rattle.stack_base.specs.declared.ids.PoolId.TheVariants.{Bios, Records}
use Rattle.stack_base.specs.declared.stack.Device.{Device}
use Rattle.stack_base.specs.declared.stack.Kind.{Kind}
use Rattle.stack_base.specs.declared.stack.Kind.TheVariants as kind
use Rattle.stack_base.specs.Stack.{IsStack}
use Rattle.stack_base.specs.Tree.{Tree, over, over_shape, tree}
use Rattle.stack_base.proofs.Unfolded.{tree_is}
use Rattle.run_machine.specs.Named as kinds
use Rattle.run_machine.specs.Opened.{device_at}
use Rattle.run_machine.specs.Scene.{is_device, is_disk, has_set, is_mirror, keeps_data}
use Rattle.task_core.specs.Leaving.{falling_from, pools_at}
use Rattle.task_core.proofs.opened.OpenedInOrder.{filter_more}
use Rattle.task_core.proofs.DisksOfKinds.{keeps_by}
use Rattle.task_steps.specs.Routed.{Routing, routing_setup}
use Rattle.task_steps.specs.Stage.{has_mirror_in}
use Rattle.run_merge.specs.Falling.{DevicePools, at_number, below, with_facts, falling_below}

-- a number within one more is within, or is the last
within_or_last : (n k : ℕ) → n ≤ suc k → (n ≤ k) ⊎ (n ≡ suc k)
within_or_last n k le = grind (arith, le)

mirrors_by : (n : ℕ) (k : Kind) (trees : List Tree) → is_mirror (over n k trees) ≡ kinds.is_mirror_kind k
unfolding over_shape
mirrors_by n (kind.Disk sectors bad) trees = refl
mirrors_by n kind.Linear trees = refl
mirrors_by n (kind.Stripe chunk) trees = refl
mirrors_by n (kind.Zoned chunk) trees = refl
mirrors_by n (kind.Limit longest chunk) trees = refl
mirrors_by n (kind.Mirror records) trees = refl

module _ (r : Routing) (good : IsStack r.stack) (n : ℕ) (device : Device) (found : slice_get r.stack.devices.items n ≡ Some device) where
  there : is_device (routing_setup r) n ≡ true
  there = lt-ltb n (length r.stack.devices.items) (slice_get_within r.stack.devices.items n device found)

  tree_here : tree r.stack n ≡ over n device.kind (map (λ (m : DevId). tree r.stack m.0) device.members.items)
  tree_here = tree_is r.stack good n device found

  keeps_here : keeps_data (tree r.stack n) ≡ kinds.is_disk_kind device.kind
  keeps_here = ap keeps_data tree_here ∙ keeps_by n device.kind (map (λ (m : DevId). tree r.stack m.0) device.members.items)

  pub disk_is : is_disk (routing_setup r) n ≡ kinds.is_disk_kind device.kind
  disk_is = ap (λ b. b && keeps_data (tree r.stack n)) there ∙ keeps_here

  pub set_is : has_set (routing_setup r) n ≡ kinds.is_stacked_kind device.kind
  set_is = ap (λ b. b && not (keeps_data (tree r.stack n))) there ∙ ap not keeps_here

  pub records_is : has_mirror_in r n ≡ kinds.is_mirror_kind device.kind
  records_is = ap (λ b. b && is_mirror (tree r.stack n)) there ∙ ap is_mirror tree_here
      ∙ mirrors_by n device.kind (map (λ (m : DevId). tree r.stack m.0) device.members.items)

-- no device is behind the last
module _ (r : Routing) (n : ℕ) (past : length r.stack.devices.items ≤ n) where
  pub no_set : has_set (routing_setup r) n ≡ false
  no_set = ap (λ b. b && not (keeps_data (tree r.stack n))) (le-ltb n (length r.stack.devices.items) past)

  pub no_records : has_mirror_in r n ≡ false
  no_records = ap (λ b. b && is_mirror (tree r.stack n)) (le-ltb n (length r.stack.devices.items) past)

-- what there is below a number is what a test finds
module _ {A : Type 0} (has : ℕ → Bool) (entry : ℕ → A) where
  pub below_is : (n : ℕ) → below has entry n ≡ map entry (filter has (range_with_len 0 n))
  unfolding below
  below_is zero = refl
  below_is (suc n) =
      ap (λ l. l ++ at_number has entry n) (below_is n) ∙ ap (λ l. map entry (filter has (range_with_len 0 n)) ++ l) (one (has n))
      ∙ sym (ap (map entry) (ap (λ k. filter has (range_with_len 0 k)) more ∙ filter_more has n) ∙ map-append entry (filter has (range_with_len 0 n)) (filter has (n ∷ [])))
    where
      more : suc n ≡ n + 1
      more = omega arith

      one : (b : Bool) → cond b (entry n ∷ []) [] ≡ map entry (cond b (n ∷ []) [])
      one true = refl
      one false = refl

  pub below_past : (n k : ℕ) → ((m : ℕ) → n ≤ m → has m ≡ false) → n ≤ k → below has entry k ≡ below has entry n
  unfolding below
  below_past n zero none le = ap (below has entry) (sym zero_is)
    where
      zero_is : n ≡ 0
      zero_is = omega (arith, le)
  below_past n (suc k) none le = by_two (within_or_last n k le) (λ less. below_past n k none less)
    where
      by_two : (n ≤ k) ⊎ (n ≡ suc k) → (n ≤ k → below has entry k ≡ below has entry n) → below has entry (suc k) ≡ below has entry n
      by_two (inl less) rest =
          ap (λ b. below has entry k ++ cond b (entry k ∷ []) []) (none k less) ∙ append-nil (below has entry k) ∙ rest less
      by_two (inr last) rest = ap (below has entry) (sym last)

module _ (pools : DevicePools) where
  -- one device more
  by_kind : (n : ℕ) (k : Kind) (set mirror : Bool) → set ≡ kinds.is_stacked_kind k → mirror ≡ kinds.is_mirror_kind k
      → cond mirror (with_facts pools (Records (device_at n)) ∷ []) [] ++ (cond set (with_facts pools (Bios (device_at n)) ∷ []) [] ++ falling_below pools n)
      ≡ map (with_facts pools) (pools_at n k) ++ falling_below pools n
  by_kind n k set mirror set_is mirror_is =
      ap (λ b. cond mirror (with_facts pools (Records (device_at n)) ∷ []) [] ++ (cond b (with_facts pools (Bios (device_at n)) ∷ []) [] ++ falling_below pools n)) set_is
      ∙ ap (λ b. cond b (with_facts pools (Records (device_at n)) ∷ []) [] ++ (cond (kinds.is_stacked_kind k) (with_facts pools (Bios (device_at n)) ∷ []) [] ++ falling_below pools n)) mirror_is
      ∙ of_kind k
    where
      of_kind : (k : Kind) → cond (kinds.is_mirror_kind k) (with_facts pools (Records (device_at n)) ∷ []) []
          ++ (cond (kinds.is_stacked_kind k) (with_facts pools (Bios (device_at n)) ∷ []) [] ++ falling_below pools n) ≡ map (with_facts pools) (pools_at n k) ++ falling_below pools n
      of_kind (kind.Disk sectors bad) = refl
      of_kind kind.Linear = refl
      of_kind (kind.Stripe chunk) = refl
      of_kind (kind.Zoned chunk) = refl
      of_kind (kind.Limit longest chunk) = refl
      of_kind (kind.Mirror records) = refl

  -- the pools of devices by falling number
  pub falls : (n : ℕ) (devices : List Device)
      → ((i : ℕ) (device : Device) → slice_get devices i ≡ Some device → (pools.has_set (n + i) ≡ kinds.is_stacked_kind device.kind) × (pools.is_mirror (n + i) ≡ kinds.is_mirror_kind device.kind))
      → falling_below pools (n + length devices) ≡ map (with_facts pools) (falling_from n devices) ++ falling_below pools n
  unfolding falling_from falling_below
  falls n [] each = ap (falling_below pools) none
    where
      none : n + 0 ≡ n
      none = omega arith
  falls n (device ∷ more) each =
      ap (falling_below pools) next
      ∙ falls (n + 1) more (λ i d found. let is = each (suc i) d found in (ap pools.has_set (later i) ∙ is.0, ap pools.is_mirror (later i) ∙ is.1))
      ∙ ap (λ l. map (with_facts pools) (falling_from (n + 1) more) ++ l)
      (ap (falling_below pools) one ∙ by_kind n device.kind (pools.has_set n) (pools.is_mirror n) (ap pools.has_set same ∙ here.0) (ap pools.is_mirror same ∙ here.1))
      ∙ sym (append_assoc (map (with_facts pools) (falling_from (n + 1) more)) (map (with_facts pools) (pools_at n device.kind)) (falling_below pools n))
      ∙ ap (λ l. l ++ falling_below pools n) (sym (map-append (with_facts pools) (falling_from (n + 1) more) (pools_at n device.kind)))
    where
      next : n + suc (length more) ≡ n + 1 + length more
      next = omega arith

      one : n + 1 ≡ suc n
      one = omega arith

      same : n ≡ n + 0
      same = omega arith

      later : (i : ℕ) → n + 1 + i ≡ n + suc i
      later i = omega arith

      here : (pools.has_set (n + 0) ≡ kinds.is_stacked_kind device.kind) × (pools.is_mirror (n + 0) ≡ kinds.is_mirror_kind device.kind)
      here = each 0 device refl

  -- there are as many as the rows have
  pub none_falls : (n k : ℕ) → ((m : ℕ) → n ≤ m → (pools.has_set m ≡ false) × (pools.is_mirror m ≡ false)) → n ≤ k → falling_below pools k ≡ falling_below pools n
  unfolding falling_below
  none_falls n zero none le = ap (falling_below pools) (sym zero_is)
    where
      zero_is : n ≡ 0
      zero_is = omega (arith, le)
  none_falls n (suc k) none le = by_two (within_or_last n k le) (λ less. none_falls n k none less)
    where
      by_two : (n ≤ k) ⊎ (n ≡ suc k) → (n ≤ k → falling_below pools k ≡ falling_below pools n) → falling_below pools (suc k) ≡ falling_below pools n
      by_two (inl less) rest =
          ap (λ b. at_number pools.is_mirror (λ n. with_facts pools (Records (device_at n))) k ++ (cond b (with_facts pools (Bios (device_at k)) ∷ []) [] ++ falling_below pools k)) (none k less).0
          ∙ ap (λ b. cond b (with_facts pools (Records (device_at k)) ∷ []) [] ++ falling_below pools k) (none k less).1 ∙ rest less
      by_two (inr last) rest = ap (falling_below pools) (sym last)
