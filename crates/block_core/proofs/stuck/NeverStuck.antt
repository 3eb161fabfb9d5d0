-- No state of a run is stuck while a write is unfinished, and none of a scenario that is allowed, since no counter of it is ever full.
use Rattle.std.proofs.Common.{◌≡◌, ◌+◌, ◌<◌, ◌≤◌, ◌⊎◌, ℕ, List, [], ◌∷◌, length, inl, inr, sym, ◌∙◌, ap, subst, arith}
use Rattle.std.specs.Prelude.{◌^◌}
use Rattle.std.proofs.lemmas.List.FromFn.{length-map-range_with_len}
use Rattle.elem_ledger.specs.Ledger.{LedgerId}
use Rattle.stack_base.specs.Stack.{HasRescuers}
use Rattle.bio_books.specs.Books.{node_at}
use Rattle.run_machine.specs.declared.event.Event.{Event}
use Rattle.run_machine.specs.Scene.{Scene}
use Rattle.run_machine.specs.Opened.{Scenario, scene, start, round_count, writes_in, setup_in, from_round}
use Rattle.run_machine.specs.Runs.{State, IsRun, HasFree, HasEnded, unfinished}
use Rattle.block_core.specs.Scenarios.{IsScenario, IsNaming, EveryPoolKeepsSome, AreSorted}
use Rattle.block_core.specs.Stuck.{NoStateIsStuck, NoAllowedStateIsStuck, EachRunGoesOnOrHasEnded}
use Rattle.block_core.proofs.moves.References.{awaited_ends}
use Rattle.block_core.proofs.moves.Devices.{ground}
use Rattle.block_core.proofs.moves.StepMoves.{step_is_move}
use Rattle.block_core.proofs.sound.Invariant.{LedgersAreNumbered}
use Rattle.block_core.proofs.sound.Orders.{DeviceGeometry}
use Rattle.block_core.proofs.sound.Counters.{Counted, stays_counted}
use Rattle.block_core.proofs.sound.LargestCounts.{no_counter_is_full}
use Rattle.block_core.proofs.sound.EveryRun.{IsReachedWhole, step_whole, runs_whole, runs_tallied, runs_posted, runs_long, runs_leveled, runs_waiting, start_whole, start_leveled}
use Rattle.block_core.proofs.start.InvariantAtStart.{start_opened}
use Rattle.block_core.proofs.start.PostsAtStart.{ids_of, start_posted, start_crew}
use Rattle.block_core.proofs.start.TallyAtStart.{keeper_place, start_tallied, from_none}
use Rattle.block_core.proofs.unrefused.NodeNeeds.{needs_known}
use Rattle.block_core.proofs.unrefused.RoomKept.{run_roomy}
use Rattle.block_core.proofs.stuck.FreeEvents.{HasNumbers}
use Rattle.block_core.proofs.stuck.Rescuers.{are_rescued, opened_waits}
use Rattle.block_core.proofs.stuck.Stuck.{goes_on_or_ended}
use Rattle.block_core.proofs.stuck.WaitersBelow.{WaitInvariant}

-- no counter is above the number of events, and eight
module _ (scene : Scene) (f : LedgersAreNumbered scene) (g : DeviceGeometry scene.setup) where
  runs_counted : (n : ℕ) (s : State) (events : List Event) (new : State) → IsReachedWhole scene s → Counted n s → IsRun scene s events new → Counted (n + length events) new
  runs_counted n s [] new i t run = let e : n ≡ n + 0 = omega arith in subst (λ k. Counted k new) e (subst (Counted n) (sym run) t)
  runs_counted n s (event ∷ events) new i t (next, (place, steps), run) =
      let moved = step_is_move scene s f i.kept place event next steps in
      let e : n + 1 + length events ≡ n + length (event ∷ events) = omega arith in
      subst (λ k. Counted k new) e
      (runs_counted (n + 1) next events new (step_whole scene f g s place event next i steps)
      (subst (Counted (n + 1)) (sym moved.is) (stays_counted scene s g i.placed n t moved.move moved.can)) run)

  few_numbers : (s : State) (events : List Event) (new : State) → IsReachedWhole scene s → Counted 0 s → IsRun scene s events new → length events + 9 < 2 ^ 64 → HasNumbers new
  few_numbers s events new i t run few =
      let c = runs_counted 0 s events new i t run in
      record {
        outs = λ q. let le = c.outs q in omega (arith, le, few);
        ends = λ w k node at. let le : node.count ≤ 0 + length events + 8 = subst (λ o. awaited_ends o ≤ 0 + length events + 8) at (c.ends w k) in omega (arith, le, few);
      }

module _ (s : Scenario) (ledger : ℕ → LedgerId) (good : IsScenario s) (naming : IsNaming ledger) where
  numbered : LedgersAreNumbered (scene s ledger)
  numbered = record { named = naming }

  whole : IsReachedWhole (scene s ledger) (start s)
  whole = start_whole s ledger good naming

  run_goes_by : HasRescuers s.stack → EveryPoolKeepsSome s → AreSorted s.rounds → (events : List Event) (state : State) → IsRun (scene s ledger) (start s) events state → HasNumbers state
      → HasFree (scene s ledger) state ⊎ HasEnded state
  run_goes_by rescuers reserves ordered events state run numbers =
      let places = (setup_in s).places in
      let sc = scene s ledger in
      let g = ground s.stack good.stack places in
      let keeper = keeper_place s good ledger in
      let ids = ids_of s good ledger reserves ordered in
      let i = runs_whole sc numbered g (start s) events state whole run in
      let t0 = start_tallied s good ledger in
      let t = runs_tallied sc numbered g s.rounds keeper (start s) events state whole t0 run in
      let p = runs_posted sc numbered g s.rounds ids keeper (start s) events state whole t0 (start_posted s good ledger reserves ordered) run in
      let l = runs_leveled sc numbered g (start s) events state whole (start_leveled s ledger good naming) run in
      let r = run_roomy s ledger good naming events state run in
      let w = runs_waiting sc numbered g (are_rescued s.stack good.stack places rescuers) (start s) events state whole (opened_waits sc (start s) (start_opened s good ledger)) run in
      let long = runs_long sc numbered g s.rounds ids keeper (start s) events state whole run ∙ length-map-range_with_len (writes_in s) 0 (round_count s) in
      let none : from_round s.rounds (length state.objects.tally.left) ≡ 0 = ap (from_round s.rounds) long ∙ (from_none s.rounds 0 (round_count s) (omega arith)).1 in
      let known : WaitInvariant sc state l.0 = record { ground = g; kept = i.kept; placed = i.placed; waits = w; alive = i.alive; levels = l.1; mins = p.mins } in
      goes_on_or_ended sc state l.0 known ids keeper p (start_crew s good ledger reserves ordered) s.rounds t none (needs_known s.stack good.stack places) r numbers

  -- a run that has ended has no unfinished write
  run_free_by : HasRescuers s.stack → EveryPoolKeepsSome s → AreSorted s.rounds → (events : List Event) (state : State) → IsRun (scene s ledger) (start s) events state → HasNumbers state → 1 ≤ unfinished state
      → HasFree (scene s ledger) state
  run_free_by rescuers reserves ordered events state run numbers some =
      elim (run_goes_by rescuers reserves ordered events state run numbers) [
        | inl free ↦ free
        | inr ended ↦ let none = ended.writes in absurd (omega (arith, some, none))
      ]

  run_free : HasRescuers s.stack → EveryPoolKeepsSome s → AreSorted s.rounds → (events : List Event) (state : State) → IsRun (scene s ledger) (start s) events state → length events + 9 < 2 ^ 64 → 1 ≤ unfinished state
      → HasFree (scene s ledger) state
  run_free rescuers reserves ordered events state run few some =
      let sc = scene s ledger in
      let g = ground s.stack good.stack (setup_in s).places in
      let o = start_opened s good ledger in
      let counted : Counted 0 (start s) = record { outs = λ q. let z = o.pools q in omega (arith, z); ends = λ w k. let z : awaited_ends (node_at ((start s).objects.book w) k) ≡ 0 = ap awaited_ends (o.books w k) in omega (arith, z) } in
      let numbers = few_numbers sc numbered g (start s) events state whole counted run few in
      run_free_by rescuers reserves ordered events state run numbers some

pub no_state_is_stuck : NoStateIsStuck
no_state_is_stuck s ledger events state good rescuers reserves ordered naming run few some = run_free s ledger good naming rescuers reserves ordered events state run few some

pub no_allowed_state_is_stuck : NoAllowedStateIsStuck
no_allowed_state_is_stuck s ledger events state good allowed rescuers reserves ordered naming run some =
    let c = no_counter_is_full s ledger events state good allowed naming run in
    run_free_by s ledger good naming rescuers reserves ordered events state run (record { outs = c.outs; ends = c.ends }) some

pub each_run_goes_on_or_has_ended : EachRunGoesOnOrHasEnded
each_run_goes_on_or_has_ended s ledger events state good allowed rescuers reserves ordered naming run =
    let c = no_counter_is_full s ledger events state good allowed naming run in
    run_goes_by s ledger good naming rescuers reserves ordered events state run (record { outs = c.outs; ends = c.ends })
