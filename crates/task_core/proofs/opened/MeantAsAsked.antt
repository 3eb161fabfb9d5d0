-- What a text means of which no line is refused is as its opening asks for it.
use Rattle.std.proofs.Common.{◌≡◌, inl, inr, ◌^◌, ◌<◌, ◌≤◌, not, ℕ, suc, Bool, true, false, List, [], ◌∷◌, length, Option, None, Some, refl, sym, ap, subst, ◌∙◌, arith}
use Rattle.std.specs.Prelude.{All, Contains, nat_lt, slice_get, sum_by}
use Rattle.std.specs.Option.{option_map_or}
use Rattle.std.proofs.lemmas.List.Elements.{All-contains_itself, All-map, All-nil, All-weaker}
use Rattle.std.proofs.lemmas.List.Sums.{sum_by-cons}
use Rattle.std.proofs.lemmas.Option.{slice_get_cases, slice_get_within}
use Rattle.std.proofs.lemmas.Bool.{and_parts, not-true, both_ways, lt-ltb, ltb-true}
use Rattle.stack_base.specs.declared.ids.PoolId.{PoolId}
use Rattle.stack_base.specs.declared.ids.PoolId.TheVariants.{Bios, Records}
use Rattle.stack_base.specs.declared.stack.Device.{Device}
use Rattle.stack_base.specs.declared.stack.Stack.{Stack}
use Rattle.stack_base.specs.PoolId.{pool_number}
use Rattle.stack_base.specs.Stack.{IsStack}
use Rattle.stack_base.specs.Tree.{shape_of, size, tree}
use Rattle.stack_base.specs.Fault.{bads_of_kind}
use Rattle.layout_model.specs.declared.write.Write.{Write}
use Rattle.layout_model.specs.May.{bads_of}
use Rattle.layout_model.specs.NeedCounts.{elements, nodes}
use Rattle.layout_model.specs.Writes.{IsWrite}
use Rattle.model_disks.specs.Disks.{IsBadRange}
use Rattle.decl_text.specs.Accepting.{shown_devices, what_of_kind}
use Rattle.decl_text.specs.Fit.{IsFitBad, IsFitStack}
use Rattle.decl_text.specs.Known.{sectors_of}
use Rattle.decl_text.specs.declared.accepted.Accepted.{Accepted}
use Rattle.work_text.specs.Fit.{IsFitWork, IsPoolIn}
use Rattle.work_text.specs.declared.Resize.{Resize}
use Rattle.work_text.specs.declared.Work.{Work}
use Rattle.work_text.proofs.WorkFits.{work_is_fit}
use Rattle.task_core.specs.opened.NewTasks.{AreServableWrites, reserves_in}
use Rattle.run_machine.specs.ReadBehind.{IsReadBehind}
use Rattle.run_machine.specs.Opened.{device_at, records_of as records_at, reserve_of}
use Rattle.task_core.specs.opened.Openings.{has_set_at}
use Rattle.task_steps.specs.Stage.{has_mirror_in}
use Rattle.task_steps.specs.Routed.{Routing, copies_bios, keeps, routing_setup}
use Rattle.run_machine.specs.Scene.{has_set, is_mirror, keeps_data}
use Rattle.task_core.proofs.opened.WritesSharedOut.{few_rounds}
use Rattle.task_core.proofs.opened.PoolsBehind.{bios_kept, slips_kept, disks_keep_none, others_have_none, data_by, mirror_by, bads_by, number_small}
pub use Rattle.task_core.proofs.opened.PoolsBehind.{of_stack}
pub use Rattle.task_core.proofs.opened.ScriptsBehind.{scripts_alone, scripts_of_stack}

-- reserves
module _ (routing : Routing) (good : IsStack routing.stack) (fit : IsFitStack routing.stack) where
  device_there : (dev : ℕ) → nat_lt dev (length routing.stack.devices.items) ≡ true
      → (device : Device) × (slice_get routing.stack.devices.items dev ≡ Some device)
  device_there dev below = elim (slice_get_cases routing.stack.devices.items dev).1 [
    | inl there ↦ (there.0, there.2)
    | inr past ↦ let lt = ltb-true dev (length routing.stack.devices.items) below in absurd (omega (arith, lt, past.0))
  ]

  pub sets_kept : (dev : ℕ) → has_set_at routing (suc dev) ≡ true → 1 ≤ reserve_of routing.stack (Bios (device_at dev))
  sets_kept dev used =
      let parts = and_parts (nat_lt dev (length routing.stack.devices.items)) (not (keeps_data (tree routing.stack dev))) used in
      let device = device_there dev parts.0 in
      let keeps_none = sym (data_by routing.stack good dev device.0 device.1 (shape_of device.0.kind) refl) ∙ not-true (keeps_data (tree routing.stack dev)) parts.1 in
      subst (λ n. 1 ≤ n) (sym (ap (λ o. option_map_or (λ (d : Device). d.reserve) o 0) device.1))
      (bios_kept device.0.kind device.0.reserve device.0.rescuer keeps_none (fit.devices dev device.0 device.1).reserves)

  pub slips_are_kept : (dev : ℕ) → has_mirror_in routing dev ≡ true → 1 ≤ reserve_of routing.stack (Records (device_at dev))
  slips_are_kept dev used =
      let parts = and_parts (nat_lt dev (length routing.stack.devices.items)) (is_mirror (tree routing.stack dev)) used in
      let device = device_there dev parts.0 in
      let copies_all = sym (mirror_by routing.stack good dev device.0 device.1 (shape_of device.0.kind) refl) ∙ parts.1 in
      subst (λ n. 1 ≤ n) (sym (ap (λ o. option_map_or (λ (d : Device). records_at d.kind) o 0) device.1))
      (slips_kept device.0.kind device.0.reserve device.0.rescuer copies_all (fit.devices dev device.0 device.1).reserves)

  -- and what has no pool keeps nothing
  pub no_set_keeps : (dev : ℕ) → has_set (routing_setup routing) dev ≡ false → reserve_of routing.stack (Bios (device_at dev)) ≡ 0
  no_set_keeps dev none = by_found (slice_get routing.stack.devices.items dev) refl
    where
      keeps_it : (device : Device) → slice_get routing.stack.devices.items dev ≡ Some device → (b : Bool) → keeps (shape_of device.kind) ≡ b → b ≡ true
      keeps_it device q true e = refl
      keeps_it device q false e =
          let below = lt-ltb dev (length routing.stack.devices.items) (slice_get_within routing.stack.devices.items dev device q) in
          let keeps_none = data_by routing.stack good dev device q (shape_of device.kind) refl ∙ e in
          absurd (both_ways (has_set (routing_setup routing) dev) none (rw (below, keeps_none) refl))

      by_found : (o : Option Device) → slice_get routing.stack.devices.items dev ≡ o → reserve_of routing.stack (Bios (device_at dev)) ≡ 0
      by_found None q = ap (λ o. option_map_or (λ (d : Device). d.reserve) o 0) q
      by_found (Some device) q =
          ap (λ o. option_map_or (λ (d : Device). d.reserve) o 0) q
          ∙ disks_keep_none device.kind device.reserve device.rescuer (keeps_it device q (keeps (shape_of device.kind)) refl) (fit.devices dev device q).reserves

  pub no_slips_keep : (dev : ℕ) → has_mirror_in routing dev ≡ false → reserve_of routing.stack (Records (device_at dev)) ≡ 0
  no_slips_keep dev none = by_found (slice_get routing.stack.devices.items dev) refl
    where
      copies_none : (device : Device) → slice_get routing.stack.devices.items dev ≡ Some device → (b : Bool) → copies_bios (shape_of device.kind) ≡ b → b ≡ false
      copies_none device q false e = refl
      copies_none device q true e =
          let below = lt-ltb dev (length routing.stack.devices.items) (slice_get_within routing.stack.devices.items dev device q) in
          let copies_all = mirror_by routing.stack good dev device q (shape_of device.kind) refl ∙ e in
          absurd (both_ways (has_mirror_in routing dev) none (rw (below, copies_all) refl))

      by_found : (o : Option Device) → slice_get routing.stack.devices.items dev ≡ o → reserve_of routing.stack (Records (device_at dev)) ≡ 0
      by_found None q = ap (λ o. option_map_or (λ (d : Device). records_at d.kind) o 0) q
      by_found (Some device) q =
          ap (λ o. option_map_or (λ (d : Device). records_at d.kind) o 0) q
          ∙ others_have_none device.kind (copies_none device q (copies_bios (shape_of device.kind)) refl)

-- bad ranges
pub bads_are : (stack : Stack) → IsStack stack → IsFitStack stack → (dev : ℕ) → All (IsBadRange (size (tree stack dev))) (bads_of stack dev)
bads_are stack good fit dev = by_found (slice_get stack.devices.items dev) refl
  where
    by_found : (o : Option Device) → slice_get stack.devices.items dev ≡ o → All (IsBadRange (size (tree stack dev))) (bads_of stack dev)
    by_found None q =
        subst (λ o. All (IsBadRange (size (tree stack dev))) (option_map_or (λ (d : Device). bads_of_kind d.kind) o [])) (sym q)
        (All-nil (IsBadRange (size (tree stack dev))))
    by_found (Some device) q =
        subst (λ o. All (IsBadRange (size (tree stack dev))) (option_map_or (λ (d : Device). bads_of_kind d.kind) o [])) (sym q)
        (bads_by stack good dev device q device.kind refl
        (All-weaker (Contains (bads_of_kind device.kind)) (λ bad. IsFitBad (sectors_of (what_of_kind device.kind)) bad) (λ bad in_it. fit.bad dev device bad q in_it)
        (bads_of_kind device.kind) (All-contains_itself (bads_of_kind device.kind))))

-- writes
pub sum_le : {X : Type 0} (f g : X → ℕ) (xs : List X) → ((x : X) → f x ≤ g x) → sum_by f xs ≤ sum_by g xs
sum_le f g [] le = omega arith
sum_le f g (x ∷ xs) le =
    let first = le x in
    let rest = sum_le f g xs le in omega (arith, sum_by-cons f x xs, sum_by-cons g x xs, first, rest)

module _ (accepted : Accepted) (work : Work) (read : IsReadBehind accepted work) where
  pub fit_work : IsFitWork accepted.stack work
  fit_work = work_is_fit read.text accepted work read.begins read.reads

  pub shared : AreServableWrites accepted.stack work.rounds.items work.writes.items
  shared =
      let allowed = read.reads.1.bound.allowed in
      let below = sum_le (nodes accepted.stack) (elements accepted.stack) work.writes.items (λ write. omega arith) in
      record {
        served = All-weaker (Contains work.writes.items) (IsWrite accepted.stack) read.served work.writes.items (All-contains_itself work.writes.items);
        writers = All-weaker (λ (write : Write). write.task ≤ 7) (λ (write : Write). write.task < 8) (λ write le. omega (arith, le)) work.writes.items fit_work.writers;
        paired = fit_work.paired;
        few = omega (arith, allowed, below);
      }

  pub reserves_small : All (λ (reserve : PoolId × ℕ). pool_number reserve.0 < 2 ^ 32) (reserves_in work.resizes.items)
  reserves_small =
      All-map (λ (reserve : PoolId × ℕ). pool_number reserve.0 < 2 ^ 32) (λ (resize : Resize). (resize.pool, resize.min)) work.resizes.items
      (All-weaker (λ (resize : Resize). IsPoolIn (shown_devices accepted.stack) resize.pool) (λ (resize : Resize). pool_number resize.pool < 2 ^ 32)
      (λ resize is. number_small accepted.stack accepted.is_stack resize.pool is) work.resizes.items fit_work.pools)

  pub rounds_few : length work.rounds.items < 2 ^ 32
  rounds_few = few_rounds accepted.stack work.rounds.items work.writes.items shared
