-- Every event of every run lowers what is charged by its price, so no run has more events than the rank at its start.
use Rattle.std.proofs.Common.{◌≡◌, ◌+◌, ◌≤◌, ℕ, Bool, true, false, List, [], ◌∷◌, length, Option, None, Some, refl, sym, ◌∙◌, ap, arith}
use Rattle.elem_ledger.specs.Ledger.{LedgerId}
use Rattle.run_machine.specs.declared.event.Event.{Event}
use Rattle.run_machine.specs.Scene.{Scene}
use Rattle.run_machine.specs.Opened.{Scenario, scene, start, setup_in}
use Rattle.run_machine.specs.Runs.{State, Steps, IsRun}
use Rattle.block_core.specs.Charges.{held_charge, close_charge, charge, charged, spent_charges, open_charges, state_rank, EventsLowerRank}
use Rattle.block_core.specs.Scenarios.{IsScenario, IsNaming}
use Rattle.block_core.specs.Payers.{Paid, unit_price}
use Rattle.block_core.specs.Touches.{touch_of, masters_after, were_masters, none_was}
use Rattle.block_core.specs.Paying.{end_told, paid_as, costs, all_costs, CostsAreCharged, EventsUseUpCharges, NoMoreIsSpent}
use Rattle.block_core.specs.Bounded.{most_steps, OpenedRankIsBounded, RunsAreBounded}
use Rattle.block_core.proofs.moves.Moves.{touch_by}
use Rattle.block_core.proofs.moves.PaidKinds.{kind_of}
use Rattle.block_core.proofs.sound.Misplaced.{was_after}
use Rattle.block_core.proofs.sound.Splitting.{total_like}
use Rattle.block_core.proofs.sound.StoodFor.{closed_so}
use Rattle.block_core.proofs.sound.Invariant.{LedgersAreNumbered}
use Rattle.block_core.proofs.sound.Orders.{DeviceGeometry}
use Rattle.block_core.proofs.moves.Devices.{ground}
use Rattle.block_core.proofs.moves.StepMoves.{step_is_move}
use Rattle.block_core.proofs.bound.DeviceCharges.{Priced, priced}
use Rattle.block_core.proofs.bound.EventCharges.{lowers}
use Rattle.block_core.proofs.bound.SpentCharges.{covers}
use Rattle.block_core.proofs.bound.ChargesAtStart.{start_charge, start_spent}
use Rattle.block_core.proofs.bound.PayerCounts.{few_costs}
use Rattle.block_core.proofs.sound.EveryRun.{IsReachedWhole, runs_whole, start_whole}

-- where each event costs one, they cost as much as there are
costs_length : (scene : Scene) (was_master : ℕ → Bool) (s : State) (events : List Event) (new : State) (run : IsRun scene s events new)
    → costs unit_price scene was_master s events new run ≡ length events
costs_length scene was_master s [] new run = refl
costs_length scene was_master s (event ∷ events) new (next, (place, steps), run) =
    omega (arith, costs_length scene (masters_after s place (touch_of event.what) was_master) next events new run)

-- and it does not matter which closed nodes were masters
one_price : (was_master : ℕ → Bool) (scene : Scene) (s : State) → charged unit_price was_master scene s ≡ charged unit_price none_was scene s
one_price was_master scene s =
    let u = charge unit_price was_master scene.setup in
    let v = charge unit_price none_was scene.setup in
    omega (
      arith,
      total_like u v (record { todo = refl; bio = refl; copy = refl; hand = refl; vector = refl; slip = refl; node = refl }) scene s
          (λ i writer closed. ap (λ n. n + held_charge unit_price closed.held) (by_kind (was_master i) closed.parent)),
    )
  where
    by_kind : (b : Bool) (parent : Option ℕ) → close_charge unit_price b parent ≡ close_charge unit_price false parent
    by_kind b None = refl
    by_kind true (Some parent) = refl
    by_kind false (Some parent) = refl

module _ (scene : Scene) (f : LedgersAreNumbered scene) (g : DeviceGeometry scene.setup) (p : (price : Paid → ℕ) → Priced price scene.setup) where
  -- one event
  step_costs : (price : Paid → ℕ) (was_master : ℕ → Bool) (s : State) (place : ℕ) (event : Event) (new : State) → IsReachedWhole scene s → Steps scene s place event new
      → price (paid_as (end_told (was_master place) (s.task place)) event.what) + charged price (masters_after s place (touch_of event.what) was_master) scene new + spent_charges price scene s
      ≤ charged price was_master scene s + spent_charges price scene new
  step_costs price was_master s place event new i steps =
      let moved = step_is_move scene s f i.kept place event new steps in
      let low = lowers price was_master scene s g (p price) i.kept i.placed moved.move moved.can in
      let now : masters_after s place (touch_of event.what) was_master ≡ was_after was_master moved.move =
      ap (λ touch. masters_after s place touch was_master) moved.touches ∙ ap (λ at. masters_after s at (touch_by moved.move) was_master) (sym moved.at)
      ∙ closed_so scene s was_master moved.move moved.can in
      let charges = ap (λ was. charged price was scene new) now ∙ ap (charged price (was_after was_master moved.move) scene) moved.is in
      let spends = ap (spent_charges price scene) moved.is in
      let pays = ap price (moved.pays (was_master place)) ∙ ap (λ at. price (kind_of (was_master at) moved.move)) (sym moved.at) in
      omega (arith, low, charges, spends, pays)

  -- and all of them
  pub runs_cost : (price : Paid → ℕ) (was_master : ℕ → Bool) (s : State) (events : List Event) (new : State) → IsReachedWhole scene s → (run : IsRun scene s events new)
      → costs price scene was_master s events new run + charged price (were_masters scene s events new run was_master) scene new + spent_charges price scene s
      ≤ charged price was_master scene s + spent_charges price scene new
  runs_cost price was_master s [] new i run =
      let charges = ap (charged price was_master scene) run in
      let spends = ap (spent_charges price scene) run in
      omega (arith, charges, spends)
  runs_cost price was_master s (event ∷ events) new i (next, (place, steps), run) =
      let j = runs_whole scene f g s (event ∷ []) next i (next, (place, steps), refl) in
      omega (
        arith,
        step_costs price was_master s place event next i steps,
        runs_cost price (masters_after s place (touch_of event.what) was_master) next events new j run,
      )

  -- they use up as much of what is open as they cost
  pub runs_use_up : (price : Paid → ℕ) (was_master : ℕ → Bool) (s : State) (events : List Event) (new : State) → IsReachedWhole scene s → IsReachedWhole scene new → (run : IsRun scene s events new)
      → costs price scene was_master s events new run + open_charges price (were_masters scene s events new run was_master) scene new ≤ open_charges price was_master scene s
  runs_use_up price was_master s events new i j run =
      omega (
        arith,
        runs_cost price was_master s events new i run,
        covers price (were_masters scene s events new run was_master) scene new (p price) j.kept j.placed,
        covers price was_master scene s (p price) i.kept i.placed,
      )

module _ (s : Scenario) (ledger : ℕ → LedgerId) (good : IsScenario s) (naming : IsNaming ledger) where
  numbered : LedgersAreNumbered (scene s ledger)
  numbered = record { named = naming }

  run_uses_up : (before later : List Event) (old new : State) → IsRun (scene s ledger) (start s) before old → (run : IsRun (scene s ledger) old later new)
      → (price : Paid → ℕ) (was_master : ℕ → Bool)
      → costs price (scene s ledger) was_master old later new run + open_charges price (were_masters (scene s ledger) old later new run was_master) (scene s ledger) new
      ≤ open_charges price was_master (scene s ledger) old
  run_uses_up before later old new first run price was_master =
      let g = ground s.stack good.stack (setup_in s).places in
      let p : (price : Paid → ℕ) → Priced price (setup_in s) = λ price. priced price s.stack good.stack (setup_in s).places in
      let i = runs_whole (scene s ledger) numbered g (start s) before old (start_whole s ledger good naming) first in
      let j = runs_whole (scene s ledger) numbered g old later new i run in
      runs_use_up (scene s ledger) numbered g p price was_master old later new i j run

  run_lowers : (before later : List Event) (old new : State) → IsRun (scene s ledger) (start s) before old → IsRun (scene s ledger) old later new
      → length later + state_rank (scene s ledger) new ≤ state_rank (scene s ledger) old
  run_lowers before later old new first second =
      omega (
        arith,
        costs_length (scene s ledger) none_was old later new second,
        one_price (were_masters (scene s ledger) old later new second none_was) (scene s ledger) new,
        run_uses_up before later old new first second unit_price none_was,
      )

  run_covers : (events : List Event) (state : State) → IsRun (scene s ledger) (start s) events state → (price : Paid → ℕ) (was_master : ℕ → Bool)
      → spent_charges price (scene s ledger) state ≤ charged price was_master (scene s ledger) state
  run_covers events state run price was_master =
      let g = ground s.stack good.stack (setup_in s).places in
      let j = runs_whole (scene s ledger) numbered g (start s) events state (start_whole s ledger good naming) run in
      covers price was_master (scene s ledger) state (priced price s.stack good.stack (setup_in s).places) j.kept j.placed

  run_bounded : (events : List Event) (state : State) → IsRun (scene s ledger) (start s) events state → length events ≤ most_steps s
  run_bounded events state run = omega (arith, run_lowers [] events (start s) state refl run, start_charge s good ledger unit_price, few_costs s)

  -- whatever events cost, the events of a run cost no more than all that pays for them
  run_paid : (events : List Event) (state : State) (run : IsRun (scene s ledger) (start s) events state) (price : Paid → ℕ)
      → costs price (scene s ledger) none_was (start s) events state run ≤ all_costs price s
  run_paid events state run price =
      let i = start_whole s ledger good naming in
      let g = ground s.stack good.stack (setup_in s).places in
      let p : (price : Paid → ℕ) → Priced price (setup_in s) = λ price. priced price s.stack good.stack (setup_in s).places in
      let j = runs_whole (scene s ledger) numbered g (start s) events state i run in
      omega (
        arith,
        runs_cost (scene s ledger) numbered g p price none_was (start s) events state i run,
        covers price (were_masters (scene s ledger) (start s) events state run none_was) (scene s ledger) state (p price) j.kept j.placed,
        start_charge s good ledger price,
        start_spent s good ledger price,
      )

pub events_lower_rank : EventsLowerRank
events_lower_rank s ledger before later old new good naming first second = run_lowers s ledger good naming before later old new first second

pub runs_are_bounded : RunsAreBounded
runs_are_bounded s ledger events state good naming run = run_bounded s ledger good naming events state run

pub opened_rank_is_bounded : OpenedRankIsBounded
opened_rank_is_bounded s ledger good naming = omega (arith, start_charge s good ledger unit_price, few_costs s)

pub no_more_is_spent : NoMoreIsSpent
no_more_is_spent s ledger events state good naming run price =
    run_covers s ledger good naming events state run price (were_masters (scene s ledger) (start s) events state run none_was)

pub events_use_up_charges : EventsUseUpCharges
events_use_up_charges s ledger before later old new good naming first run price =
    run_uses_up s ledger good naming before later old new first run price (were_masters (scene s ledger) (start s) before old first none_was)

pub costs_are_charged : CostsAreCharged
costs_are_charged s ledger events state good naming run price = run_paid s ledger good naming events state run price
