-- Every run of every scenario keeps the invariant, and tells no write done twice.
use Rattle.std.proofs.Common.{◌≡◌, ◌+◌, ◌≤◌, ℕ, List, [], ◌∷◌, length, refl, sym, ◌∙◌, ap, subst, arith}
use Rattle.elem_ledger.specs.Ledger.{LedgerId}
use Rattle.bio_books.specs.Books.{node_at}
use Rattle.run_machine.specs.Scene.{Scene}
use Rattle.run_machine.specs.Runs.{State}
use Rattle.block_core.specs.Weights.{total_weight}
use Rattle.block_core.proofs.sound.Invariant.{LedgersAreNumbered, Invariant}
use Rattle.block_core.proofs.sound.Orders.{Placed, DeviceGeometry}
use Rattle.run_machine.specs.Opened.{Scenario, scene, start, setup_in}
use Rattle.block_core.specs.Scenarios.{IsScenario}
use Rattle.block_core.specs.Scenarios.{IsNaming}
use Rattle.block_core.specs.Dones.{times_done, EachIsDoneOnce}
use Rattle.block_core.specs.Waits.{NoTaskWaitsForItself}
use Rattle.run_machine.specs.declared.event.Event.{Event}
use Rattle.run_machine.specs.Runs.{Steps, IsRun}
use Rattle.block_core.proofs.start.InvariantAtStart.{total_zero, opened_kept, start_opened}
use Rattle.block_core.proofs.sound.DoneOnce.{stage}
use Rattle.block_core.proofs.start.StagesAtStart.{stage_at_start}
use Rattle.block_core.proofs.sound.Runs.{step_keeps, step_done}
use Rattle.block_core.proofs.moves.StepMoves.{step_is_move}
use Rattle.block_core.proofs.sound.OrdersKept.{stays_placed, placed_in}
use Rattle.block_core.proofs.sound.NodesWait.{IsAlive, alive}
use Rattle.block_core.proofs.sound.Rounds.{Tallied, stays_tallied}
use Rattle.block_core.proofs.start.TallyAtStart.{keeper_place, start_tallied}
use Rattle.stack_base.specs.Stack.{HasRescuers}
use Rattle.block_core.specs.Waits.{NoneWaitsForItself}
use Rattle.block_core.proofs.stuck.Waits.{Waits, AreRescued, stays_waiting, none_waits}
use Rattle.block_core.proofs.stuck.Rescuers.{are_rescued, opened_waits}
use Rattle.block_core.proofs.sound.OffLevels.{off_levels, AreLeveled}
use Rattle.block_core.proofs.sound.LevelsKept.{stays_leveled}
use Rattle.block_core.specs.Rounds.{RoundsAreTallied}
use Rattle.run_machine.specs.declared.event.TaskId.{TaskId}
use Rattle.block_core.proofs.sound.TaskPosts.{Posted, stays_posted, left_long}
use Rattle.block_core.proofs.moves.Devices.{ground}
use Rattle.block_core.proofs.start.WritesAtStart.{start_placed}

-- all that stays in a run
pub record IsReachedWhole (scene : Scene) (s : State) : Type 0 where
  pub kept : Invariant scene s
  pub placed : Placed scene.setup s
  pub alive : (w k : ℕ) → IsAlive (node_at (s.objects.book w) k)

module _ (scene : Scene) (f : LedgersAreNumbered scene) (g : DeviceGeometry scene.setup) where
  step_placed : (s : State) (place : ℕ) (event : Event) (new : State) → IsReachedWhole scene s → Steps scene s place event new → Placed scene.setup new
  step_placed s place event new i steps =
      let moved = step_is_move scene s f i.kept place event new steps in
      subst (Placed scene.setup) (sym moved.is) (stays_placed scene s f g i.kept i.placed moved.move moved.can)

  step_alive : (s : State) (place : ℕ) (event : Event) (new : State) → IsReachedWhole scene s → Steps scene s place event new → (w k : ℕ) → IsAlive (node_at (new.objects.book w) k)
  step_alive s place event new i steps =
      let moved = step_is_move scene s f i.kept place event new steps in
      subst (λ (x : State). (w k : ℕ) → IsAlive (node_at (x.objects.book w) k)) (sym moved.is) (alive scene s g i.placed i.alive moved.move moved.can)

  pub step_whole : (s : State) (place : ℕ) (event : Event) (new : State) → IsReachedWhole scene s → Steps scene s place event new → IsReachedWhole scene new
  step_whole s place event new i steps =
      let p = step_placed s place event new i steps in
      record { kept = step_keeps scene s f i.kept place event new steps (λ other. placed_in scene.setup (new.task other) (p.tasks other)); placed = p; alive = step_alive s place event new i steps }

  pub runs_whole : (s : State) (events : List Event) (new : State) → IsReachedWhole scene s → IsRun scene s events new → IsReachedWhole scene new
  runs_whole s [] new i run = subst (IsReachedWhole scene) (sym run) i
  runs_whole s (event ∷ events) new i (next, (place, steps), run) = runs_whole next events new (step_whole s place event next i steps) run

  pub runs_done : (w : ℕ) (s : State) (events : List Event) (new : State) → IsReachedWhole scene s → IsRun scene s events new
      → times_done w events + total_weight scene (stage w) new ≡ total_weight scene (stage w) s
  runs_done w s [] new i run = omega (arith, ap (total_weight scene (stage w)) run)
  runs_done w s (event ∷ events) new i (next, (place, steps), run) =
      omega (arith, runs_done w next events new (step_whole s place event next i steps) run, step_done scene s w f i.kept place event next steps)

-- the tally stays right
module _ (scene : Scene) (f : LedgersAreNumbered scene) (g : DeviceGeometry scene.setup) (rounds : List ℕ) (keeper : ℕ) where
  pub runs_tallied : (s : State) (events : List Event) (new : State) → IsReachedWhole scene s → Tallied rounds keeper scene s → IsRun scene s events new → Tallied rounds keeper scene new
  runs_tallied s [] new i t run = subst (Tallied rounds keeper scene) (sym run) t
  runs_tallied s (event ∷ events) new i t (next, (place, steps), run) =
      let moved = step_is_move scene s f i.kept place event next steps in
      runs_tallied next events new (step_whole scene f g s place event next i steps)
      (subst (Tallied rounds keeper scene) (sym moved.is) (stays_tallied rounds keeper scene s t moved.move moved.can)) run

-- each task stays at its post, and no round is added
module _ (scene : Scene) (f : LedgersAreNumbered scene) (g : DeviceGeometry scene.setup) (rounds : List ℕ) (ids : ℕ → TaskId) (keeper : ℕ) where
  pub runs_posted : (s : State) (events : List Event) (new : State) → IsReachedWhole scene s → Tallied rounds keeper scene s → Posted ids keeper scene s → IsRun scene s events new → Posted ids keeper scene new
  runs_posted s [] new i t p run = subst (Posted ids keeper scene) (sym run) p
  runs_posted s (event ∷ events) new i t p (next, (place, steps), run) =
      let moved = step_is_move scene s f i.kept place event next steps in
      runs_posted next events new (step_whole scene f g s place event next i steps)
      (subst (Tallied rounds keeper scene) (sym moved.is) (stays_tallied rounds keeper scene s t moved.move moved.can))
      (subst (Posted ids keeper scene) (sym moved.is) (stays_posted rounds ids keeper scene s i.kept t p moved.move moved.can)) run

  pub runs_long : (s : State) (events : List Event) (new : State) → IsReachedWhole scene s → IsRun scene s events new → length new.objects.tally.left ≡ length s.objects.tally.left
  runs_long s [] new i run = ap (λ (x : State). length x.objects.tally.left) run
  runs_long s (event ∷ events) new i (next, (place, steps), run) =
      let moved = step_is_move scene s f i.kept place event next steps in
      runs_long next events new (step_whole scene f g s place event next i steps) run
      ∙ ap (λ (x : State). length x.objects.tally.left) moved.is ∙ left_long scene s moved.move

-- nodes stay on levels
module _ (scene : Scene) (f : LedgersAreNumbered scene) (g : DeviceGeometry scene.setup) where
  pub runs_leveled : (s : State) (events : List Event) (new : State) → IsReachedWhole scene s → AreLeveled scene s → IsRun scene s events new → AreLeveled scene new
  runs_leveled s [] new i t run = subst (AreLeveled scene) (sym run) t
  runs_leveled s (event ∷ events) new i t (next, (place, steps), run) =
      let moved = step_is_move scene s f i.kept place event next steps in
      runs_leveled next events new (step_whole scene f g s place event next i steps)
      (subst (AreLeveled scene) (sym moved.is) (stays_leveled scene s g i.kept i.placed t.0 t.1 moved.move moved.can)) run

-- and no task waits for itself
module _ (scene : Scene) (f : LedgersAreNumbered scene) (g : DeviceGeometry scene.setup) (r : AreRescued scene.setup) where
  pub runs_waiting : (s : State) (events : List Event) (new : State) → IsReachedWhole scene s → Waits scene.setup s → IsRun scene s events new → Waits scene.setup new
  runs_waiting s [] new i t run = subst (Waits scene.setup) (sym run) t
  runs_waiting s (event ∷ events) new i t (next, (place, steps), run) =
      let moved = step_is_move scene s f i.kept place event next steps in
      runs_waiting next events new (step_whole scene f g s place event next i steps)
      (subst (Waits scene.setup) (sym moved.is) (stays_waiting scene s g r i.kept i.placed t moved.move moved.can)) run

module _ (s : Scenario) (ledger : ℕ → LedgerId) (good : IsScenario s) (naming : IsNaming ledger) where
  numbered : LedgersAreNumbered (scene s ledger)
  numbered = record { named = naming }

  pub start_whole : IsReachedWhole (scene s ledger) (start s)
  start_whole =
      let o = start_opened s good ledger in
      record { kept = opened_kept (scene s ledger) (start s) o; placed = start_placed s good ledger; alive = λ w k. subst IsAlive (sym (o.books w k)) tt }

  -- at the start each write is in stage in its writer alone
  pub stage_once : (w : ℕ) → total_weight (scene s ledger) (stage w) (start s) ≤ 1
  stage_once w = stage_at_start s good ledger w

  pub start_leveled : AreLeveled (scene s ledger) (start s)
  start_leveled = (λ writer place. 0, total_zero (scene s ledger) (start s) (off_levels (λ writer place. 0)) (λ n todos. refl) (start_opened s good ledger))

  -- the tally is right
  pub run_tallied : (events : List Event) (state : State) → IsRun (scene s ledger) (start s) events state → RoundsAreTallied s.rounds (scene s ledger) state
  run_tallied events state run =
      let g = ground s.stack good.stack (setup_in s).places in
      let t = runs_tallied (scene s ledger) numbered g s.rounds (keeper_place s good ledger) (start s) events state start_whole (start_tallied s good ledger) run in
      record { left = t.left; past = t.tally.past; later = t.later }

  run_waiting : HasRescuers s.stack → (events : List Event) (state : State) → IsRun (scene s ledger) (start s) events state → NoneWaitsForItself (scene s ledger) state
  run_waiting rescuers events state run =
      let g = ground s.stack good.stack (setup_in s).places in
      let i = runs_whole (scene s ledger) numbered g (start s) events state start_whole run in
      none_waits (scene s ledger) state i.placed
      (runs_waiting (scene s ledger) numbered g (are_rescued s.stack good.stack (setup_in s).places rescuers) (start s) events state start_whole
      (opened_waits (scene s ledger) (start s) (start_opened s good ledger)) run)

  run_done : (events : List Event) (state : State) → IsRun (scene s ledger) (start s) events state → (w : ℕ) → times_done w events ≤ 1
  run_done events state run w =
      omega (arith, stage_once w, runs_done (scene s ledger) numbered (ground s.stack good.stack (setup_in s).places) w (start s) events state start_whole run)

pub each_is_done_once : EachIsDoneOnce
each_is_done_once s ledger events state good naming run = run_done s ledger good naming events state run

pub none_waits_for_itself : NoTaskWaitsForItself
none_waits_for_itself s ledger events state good rescuers naming run = run_waiting s ledger good naming rescuers events state run
