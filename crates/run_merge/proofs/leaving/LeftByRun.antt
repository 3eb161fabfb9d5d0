-- What closed objects leave is what the run leaves that their histories make.
use Rattle.std.proofs.Common.{◌≡◌, ◌+◌, ◌*◌, ◌<◌, ◌≤◌, ◌++◌, cond, ℕ, zero, suc, Bool, true, false, [], ◌∷◌, Some, length, map, filter, refl, sym, ◌∙◌, ap, arith}
use Rattle.std.specs.Prelude.{All, slice_get, vec_capacity}
use Rattle.std.specs.List.{range_with_len}
use Rattle.std.proofs.lemmas.List.{append-nil, length-append, length-map}
use Rattle.std.proofs.lemmas.List.Elements.{All-filter, All-weaker}
use Rattle.std.proofs.lemmas.Simd.{map-map}
use Rattle.stack_base.specs.declared.ids.DevId.{DevId}
use Rattle.stack_base.specs.declared.ids.PoolId.TheVariants.{FsBios, FsVecs, Bios, Records}
use Rattle.stack_base.specs.declared.ids.SetId.{SetId}
use Rattle.stack_base.specs.declared.ids.SetId.TheVariants.{Fs, Of}
use Rattle.stack_base.specs.declared.stack.Device.{Device}
use Rattle.stack_base.specs.declared.stack.Stack.{Stack}
use Rattle.stack_base.specs.PoolId.{pool_number}
use Rattle.stack_base.specs.Stack.{IsStack}
use Rattle.mempool_core.specs.declared.Facts.{Facts}
use Rattle.mempool_core.specs.Pool.{LedgerPool}
use Rattle.run_machine.specs.Opened.{device_at, opened_disk}
use Rattle.run_machine.specs.Named as kinds
use Rattle.run_machine.specs.Scene.{has_set, is_disk}
use Rattle.task_core.specs.Leaving.{disks_of, falling_from, falling_pools}
use Rattle.task_core.specs.Plains.{no_pool, stage_of}
use Rattle.task_core.specs.Tables.{look_up}
use Rattle.task_core.specs.declared.plain.Plain.{Plain}
use Rattle.task_steps.specs.Routed.{Routing, routing_setup}
use Rattle.object_things.specs.Stamps.{ThingState}
use Rattle.shared_objects.specs.Shutting.{thing_of}
use Rattle.shared_objects.specs.Holding.{set_key, slip_key}
use Rattle.shared_objects.specs.Kinds.{unasked}
use Rattle.shared_objects.specs.Left.{HasClosed}
use Rattle.shared_objects.specs.declared.closed.Closed.{Closed}
use Rattle.run_merge.specs.Falling.{DevicePools, row_of, at_number, below, sets_below, records_below, with_facts, falling_below, facts_left}
use Rattle.run_merge.specs.Outcomes.{state_in, shared_scenario}
use Rattle.task_core.proofs.DisksOfKinds.{disks_found}
use Rattle.run_merge.proofs.leaving.Devices.{disk_is, set_is, records_is, no_set, no_records, below_is, below_past, falls, none_falls}
use Rattle.task_steps.specs.Stage.{has_mirror_in}
use Rattle.run_merge.proofs.leaving.FoundByKey.{map_alike}
use Rattle.run_merge.proofs.leaving.PoolRows.{of_bios, of_records, all_small, all_sets, all_records, all_disks}

-- as many pools fall as stand in rows
one_length : {A B C D : Type 0} (b c : Bool) (x : A) (y : B) (z : C) (w : D) (m n : ℕ)
    → length (cond b (x ∷ []) []) + (length (cond c (y ∷ []) []) + (m + n)) ≡ (n + length (cond c (z ∷ []) [])) + (m + length (cond b (w ∷ []) []))
one_length true true x y z w m n = omega arith
one_length true false x y z w m n = omega arith
one_length false true x y z w m n = omega arith
one_length false false x y z w m n = omega arith

module _ (all : DevicePools) where
  pub fall_length : (n : ℕ) → length (falling_below all n) ≡ length (sets_below all n) + length (records_below all n)
  unfolding falling_below below
  fall_length zero = refl
  fall_length (suc n) =
      let mirrors = at_number all.is_mirror (λ n. with_facts all (Records (device_at n))) n in
      let sets = at_number all.has_set (λ n. with_facts all (Bios (device_at n))) n in
      let a = length-append mirrors (sets ++ falling_below all n) in
      let b = length-append sets (falling_below all n) in
      let c = length-append (sets_below all n) (at_number all.has_set (λ number. (Of (device_at number), all.facts (Bios (device_at number)))) n) in
      let d = length-append (records_below all n) (at_number all.is_mirror (λ number. (device_at number, all.facts (Records (device_at number)))) n) in
      let rest = fall_length n in
      let one = one_length {C = SetId × Facts} {D = DevId × Facts} (all.is_mirror n) (all.has_set n) (with_facts all (Records (device_at n))) (with_facts all (Bios (device_at n)))
      (Of (device_at n), all.facts (Bios (device_at n))) (device_at n, all.facts (Records (device_at n))) (length (records_below all n)) (length (sets_below all n)) in
      omega (arith, a, b, c, d, rest, one)

module _ (closed : Closed) (has : HasClosed closed) where
  abbrev plain : Plain
  plain = closed.told.value.objects

  abbrev routing : Routing
  routing = (stage_of closed.told.value.objects).routing

  abbrev count : ℕ
  count = length (stage_of closed.told.value.objects).routing.stack.devices.items

  good : IsStack routing.stack
  good = has.opened.one.holds.stack_is

  few : count ≤ 32
  few = good.few

  -- the pools of the devices that were closed
  abbrev pub pools_in : DevicePools
  pools_in = record {
    has_set = has_set (routing_setup (stage_of closed.told.value.objects).routing);
    is_mirror = has_mirror_in (stage_of closed.told.value.objects).routing;
    facts = λ pool. ((state_in closed).objects.pool (pool_number pool)).facts;
  }

  small : (is : ℕ → Bool) → All (λ n. n < 32) (filter is (range_with_len 0 count))
  small is = All-filter is (λ n. n < 32) (range_with_len 0 count) (all_small 0 count 32 (let le = few in omega (arith, le)))

  sets_are : sets_below pools_in 32 ≡ map (λ n. (Of (device_at n), pools_in.facts (Bios (device_at n)))) (filter (has_set (routing_setup routing)) (range_with_len 0 count))
  sets_are =
      below_past (has_set (routing_setup routing)) (λ n. (Of (device_at n), pools_in.facts (Bios (device_at n)))) count 32 (λ m past. no_set routing m past) few
      ∙ below_is (has_set (routing_setup routing)) (λ n. (Of (device_at n), pools_in.facts (Bios (device_at n)))) count

  records_are : records_below pools_in 32 ≡ map (λ n. (device_at n, pools_in.facts (Records (device_at n)))) (filter (has_mirror_in routing) (range_with_len 0 count))
  records_are =
      below_past (has_mirror_in routing) (λ n. (device_at n, pools_in.facts (Records (device_at n)))) count 32 (λ m past. no_records routing m past) few
      ∙ below_is (has_mirror_in routing) (λ n. (device_at n, pools_in.facts (Records (device_at n)))) count

  -- what was found of each pool
  abbrev vecs_left : ThingState LedgerPool
  vecs_left = thing_of closed.vecs.thing

  abbrev sets_left : ℕ → ThingState LedgerPool
  sets_left = look_up (λ entry. set_key entry.0) (λ entry. thing_of entry.1.thing) (λ n. unasked (no_pool plain.stage.value.stack plain.vecs.ledger n)) closed.bios.items

  abbrev slips_left : ℕ → ThingState LedgerPool
  slips_left = look_up (λ entry. slip_key entry.0) (λ entry. thing_of entry.1.thing) (λ n. unasked (no_pool plain.stage.value.stack plain.vecs.ledger n)) closed.records.items

  abbrev set_found : ℕ → SetId × Facts
  set_found n = (Of (device_at n), (sets_left (2 * n)).object.state.facts)

  abbrev set_named : ℕ → SetId × Facts
  set_named n = (Of (device_at n), pools_in.facts (Bios (device_at n)))

  abbrev slips_found : ℕ → DevId × Facts
  slips_found n = (device_at n, (slips_left (2 * n + 1)).object.state.facts)

  abbrev slips_named : ℕ → DevId × Facts
  slips_named n = (device_at n, pools_in.facts (Records (device_at n)))

  set_same : (n : ℕ) → n < 32 → set_found n ≡ set_named n
  set_same n lt = ap {B = SetId × Facts} (λ (thing : ThingState LedgerPool). (Of (device_at n), thing.object.state.facts)) (sym (of_bios vecs_left sets_left slips_left n lt))

  slips_same : (n : ℕ) → n < 32 → slips_found n ≡ slips_named n
  slips_same n lt = ap {B = DevId × Facts} (λ (thing : ThingState LedgerPool). (device_at n, thing.object.state.facts)) (sym (of_records vecs_left sets_left slips_left n lt))

  -- the rows
  pub bios_row : row_of facts_left closed.bios.items ≡ (Fs, pools_in.facts FsBios) ∷ sets_below pools_in 32
  bios_row =
      all_sets routing (λ shut. thing_of shut.thing) (λ n. unasked (no_pool plain.stage.value.stack plain.vecs.ledger n)) closed.bios.items
      (has.order.bios ∙ has.opened.rows.bios.order) (λ thing. thing.object.state.facts)
      ∙ ap (λ l. (Fs, pools_in.facts FsBios) ∷ l)
      (map_alike set_found set_named (filter (has_set (routing_setup routing)) (range_with_len 0 count))
      (All-weaker (λ n. n < 32) (λ n. set_found n ≡ set_named n) set_same (filter (has_set (routing_setup routing)) (range_with_len 0 count)) (small (has_set (routing_setup routing))))
      ∙ sym sets_are)

  pub records_row : row_of facts_left closed.records.items ≡ records_below pools_in 32
  records_row =
      all_records routing (λ shut. thing_of shut.thing) (λ n. unasked (no_pool plain.stage.value.stack plain.vecs.ledger n)) closed.records.items
      (has.order.records ∙ has.opened.rows.records.order) (λ thing. thing.object.state.facts)
      ∙ map_alike slips_found slips_named (filter (has_mirror_in routing) (range_with_len 0 count))
      (All-weaker (λ n. n < 32) (λ n. slips_found n ≡ slips_named n) slips_same (filter (has_mirror_in routing) (range_with_len 0 count)) (small (has_mirror_in routing)))
      ∙ sym records_are

  pub vecs_is : facts_left closed.vecs ≡ pools_in.facts FsVecs
  vecs_is = refl

  -- all pools by falling number
  each_device : (i : ℕ) (device : Device) → slice_get routing.stack.devices.items i ≡ Some device
      → (pools_in.has_set (0 + i) ≡ kinds.is_stacked_kind device.kind) × (pools_in.is_mirror (0 + i) ≡ kinds.is_mirror_kind device.kind)
  each_device i device found = (ap pools_in.has_set same ∙ set_is routing good i device found, ap pools_in.is_mirror same ∙ records_is routing good i device found)
    where
      same : 0 + i ≡ i
      same = omega arith

  falling_is : falling_below pools_in 32 ≡ map (with_facts pools_in) (falling_from 0 routing.stack.devices.items)
  unfolding falling_below
  falling_is =
      none_falls pools_in count 32 (λ m past. (no_set routing m past, no_records routing m past)) few
      ∙ ap (falling_below pools_in) same ∙ falls pools_in 0 routing.stack.devices.items each_device ∙ append-nil (map (with_facts pools_in) (falling_from 0 routing.stack.devices.items))
    where
      same : count ≡ 0 + count
      same = omega arith

  pub pools_are : with_facts pools_in FsBios ∷ with_facts pools_in FsVecs ∷ falling_below pools_in 32 ≡ map (with_facts pools_in) (falling_pools (shared_scenario closed).stack)
  pools_are =
      ap (λ l. with_facts pools_in FsBios ∷ with_facts pools_in FsVecs ∷ l) falling_is ∙ ap (λ (stack : Stack). map (with_facts pools_in) (falling_pools stack)) has.opened.stack

  pub some_set : 0 < length closed.bios.items
  some_set =
      let row = ap length bios_row in
      let long = length-map {B = SetId × Facts} closed.bios.items (λ entry. (entry.0, entry.1.thing.object.state.facts)) in
      omega (arith, row, long)

  -- there is room for them
  pub pools_fit : length closed.bios.items + length closed.records.items + 1 ≤ vec_capacity closed.room.pools
  pools_fit =
      let sets = ap length bios_row in
      let many = length-map {B = SetId × Facts} closed.bios.items (λ entry. (entry.0, entry.1.thing.object.state.facts)) in
      let records = ap length records_row in
      let more = length-map {B = DevId × Facts} closed.records.items (λ entry. (entry.0, entry.1.thing.object.state.facts)) in
      let fall = fall_length pools_in 32 in
      let all = ap length pools_are in
      let long = length-map (falling_pools (shared_scenario closed).stack) (with_facts pools_in) in
      let room = has.room.pools.1 in
      omega (arith, sets, many, records, more, fall, all, long, room)

  -- and the disks
  each_disk : (i : ℕ) (device : Device) → slice_get routing.stack.devices.items i ≡ Some device → is_disk (routing_setup routing) (0 + i) ≡ kinds.is_disk_kind device.kind
  each_disk i device found = ap (is_disk (routing_setup routing)) same ∙ disk_is routing good i device found
    where
      same : 0 + i ≡ i
      same = omega arith

  pub disks_are : map (λ disk. disk.thing.object) closed.disks.items ≡ map (λ (dev : DevId). (state_in closed).objects.disk dev.0) (disks_of (shared_scenario closed).stack)
  disks_are =
      sym (map-map (λ thing. thing.object) (λ shut. thing_of shut.thing) closed.disks.items)
      ∙ ap (map (λ thing. thing.object))
      (all_disks routing (λ shut. shut.thing.object.dev.0) (λ shut. thing_of shut.thing) (λ n. unasked (opened_disk plain.stage.value.stack n)) closed.disks.items
      (has.order.disks ∙ has.opened.rows.disks.order))
      ∙ map-map _ _ (filter (is_disk (routing_setup routing)) (range_with_len 0 count))
      ∙ sym (map-map (λ (dev : DevId). (state_in closed).objects.disk dev.0) device_at (filter (is_disk (routing_setup routing)) (range_with_len 0 count)))
      ∙ ap (map (λ (dev : DevId). (state_in closed).objects.disk dev.0)) (sym (disks_found (is_disk (routing_setup routing)) 0 routing.stack.devices.items each_disk))
      ∙ ap (λ (stack : Stack). map (λ (dev : DevId). (state_in closed).objects.disk dev.0) (disks_of stack)) has.opened.stack

  pub disks_fit : length closed.disks.items ≤ vec_capacity closed.room.disks
  disks_fit =
      let are = ap length disks_are in
      let long = length-map closed.disks.items (λ disk. disk.thing.object) in
      let all = length-map (disks_of (shared_scenario closed).stack) (λ (dev : DevId). (state_in closed).objects.disk dev.0) in
      let room = has.room.disks.1 in
      omega (arith, are, long, all, room)
