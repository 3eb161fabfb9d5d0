-- A turn: tasks are passed over one after the other, up to the first that has an event, and while one has a free event not all are.
use Rattle.std.proofs.Common.{◌≡◌, ◌⊎◌, ◌+◌, ◌-◌, ◌%◌, ◌<◌, ◌≤◌, ℕ, Bool, false, true≢false, List, length, inl, inr, refl, sym, ap, ◌∙◌, subst, arith}
use Rattle.std.specs.Prelude.{IsTrue}
use Rattle.std.proofs.Math.Nat.{add-mod_right, mod-add-mod, mod-eq_of_lt}
use Rattle.std.proofs.lemmas.Nat.{mod_below}
use Rattle.rand_pcg.specs.Lcg.{Lcg}
use Rattle.stack_base.proofs.NumberLemmas.{below_or_last}
use Rattle.run_machine.specs.declared.event.Event.{Event}
use Rattle.run_machine.specs.declared.event.Got.TheVariants as got
use Rattle.run_machine.specs.declared.event.What.{What}
use Rattle.run_machine.specs.declared.event.What.TheVariants as what
use Rattle.task_core.specs.declared.plain.Plain.{Plain}
use Rattle.run_machine.specs.Events.{is_free}
use Rattle.task_core.specs.opened.OfOne.{run_state, AreOfOne}
use Rattle.run_machine.specs.Opened.{most_writers}
use Rattle.task_core.specs.Plains.{stage_of}
use Rattle.task_core.specs.PlainSteps.{is_ordinary, scene_of_objects, IsPassedOver}
use Rattle.task_steps.specs.Routed.{routing_setup}
use Rattle.run_machine.specs.Runs.{State, HasFree}
use Rattle.run_machine.specs.Scene.{Scene}
use Rattle.task_steps.specs.Stage.{Stage}
use Rattle.task_steps.specs.TaskViews.{TaskOf}
use Rattle.serial_run.specs.Turning.{TriedOver}

-- the place behind, round all
pub next_place : (w k n : ℕ) → ((w + k) % n + 1) % n ≡ (w + (k + 1)) % n
next_place w k n = let more : w + k + 1 ≡ w + (k + 1) = omega arith in mod-add-mod (w + k) n 1 ∙ ap (λ m. m % n) more

-- each place comes
reached : (w n p : ℕ) → p < n → (k : ℕ) × (k < n) × ((w + k) % n ≡ p)
reached w n p lt = by_order (w % n) refl (order p (w % n))
  where
    order : (p r : ℕ) → (r ≤ p) ⊎ (p < r)
    order p r = grind arith

    start : (k : ℕ) → (w + k) % n ≡ (w % n + k) % n
    start k = sym (mod-add-mod w n k)

    by_order : (r : ℕ) → w % n ≡ r → (r ≤ p) ⊎ (p < r) → (k : ℕ) × (k < n) × ((w + k) % n ≡ p)
    by_order r is (inl le) =
        let sums : r + (p - r) ≡ p = omega (arith, le) in (
          p - r,
          omega (arith, lt, le),
          start (p - r) ∙ ap (λ m. (m + (p - r)) % n) is ∙ ap (λ m. m % n) sums ∙ mod-eq_of_lt lt,
        )
    by_order r is (inr gt) =
        let below : r < n = subst (λ m. m < n) is (mod_below w n (omega (arith, lt))) in
        let sums : r + (p + n - r) ≡ p + n = omega (arith, below) in (
          p + n - r,
          omega (arith, gt, below),
          start (p + n - r) ∙ ap (λ m. (m + (p + n - r)) % n) is ∙ ap (λ m. m % n) sums ∙ add-mod_right p n ∙ mod-eq_of_lt lt,
        )

-- a free event needs no ordinary memory
free_is_other : (w : What) → IsTrue (is_free w) → IsTrue (is_ordinary w) → ⊥
-- a take of ordinary memory is not free
free_is_other (what.Take pool got.Ordinary) free ordinary = true≢false (sym free)
-- nothing else needs such memory
free_is_other w free ordinary = true≢false (sym ordinary)

-- so not all tasks are passed over
pub some_steps : (scene : Scene) (state : State) (w : ℕ) → HasFree scene state
    → ((k : ℕ) → k < scene.tasks → IsPassedOver scene state ((w + k) % scene.tasks)) → ⊥
some_steps scene state w (event, (new, (place, steps)), free) all =
    let comes = reached w scene.tasks place steps.here in
    free_is_other event.what free (subst (IsPassedOver scene state) comes.2 (all comes.0 comes.1) event new steps)

-- A turn so far: these tasks were passed over, and nothing has changed.
pub record IsSweep {V : Type 0} (old now : Plain) (first tasks : List TaskOf) (w spot passed : ℕ) (stream after : Lcg) (before seen : V) : Type 0 where
  pub same : run_state now tasks ≡ run_state old first
  pub stage : stage_of now ≡ stage_of old
  pub count : length tasks ≡ length first
  pub one : AreOfOne now tasks
  pub place : spot ≡ (w + passed) % length first
  pub words : after ≡ stream
  pub events : seen ≡ before
  pub others : (k : ℕ) → k < passed → IsPassedOver (scene_of_objects old (length first)) (run_state old first) ((w + k) % length first)

-- the scene stays
scene_stays : (old now : Plain) (count first : ℕ) → stage_of now ≡ stage_of old → count ≡ first → scene_of_objects now count ≡ scene_of_objects old first
scene_stays old now count first stage same =
    let by_stage : Stage → ℕ → Scene = λ stage count. record {
      setup = routing_setup stage.routing;
      tasks = count;
      books = most_writers;
      writes = stage.writes;
      ledger = stage.ledger;
    } in
    ap (λ stage. by_stage stage count) stage ∙ ap (by_stage (stage_of old)) same

module _ {V : Type 0} (happens : V → Event → V → Type 0) (old : Plain) (first : List TaskOf) (w : ℕ) (stream : Lcg) (before : V) (now : Plain) (tasks : List TaskOf)
    (spot passed : ℕ) (words : Lcg) (seen : V) (sweep : IsSweep old now first tasks w spot passed stream words before seen) where
  -- a task more that is passed over
  pub passes_on : (new : Plain) (more : List TaskOf) (next_spot : ℕ) (after : Lcg) (next : V) (answer : Bool)
      → TriedOver happens now tasks spot words seen answer new more after next → answer ≡ false
      → AreOfOne new more → stage_of new ≡ stage_of now → length more ≡ length tasks → next_spot ≡ (spot + 1) % length first
      → IsSweep old new first more w next_spot (passed + 1) stream after before next
  passes_on new more next_spot after next answer tried none one stage count following = record {
    same = stays.0 ∙ sweep.same;
    stage = stage ∙ sweep.stage;
    count = count ∙ sweep.count;
    one = one;
    place = following ∙ ap (λ p. (p + 1) % length first) sweep.place ∙ next_place w passed (length first);
    words = stays.1 ∙ sweep.words;
    events = stays.2 ∙ sweep.events;
    others = λ k lt. elim (below_or_last k passed lt) [ inl less ↦ sweep.others k less | inr same ↦ here k same ];
  }
    where
      stays : TriedOver happens now tasks spot words seen false new more after next
      stays = subst (λ b. TriedOver happens now tasks spot words seen b new more after next) none tried

      here : (k : ℕ) → k ≡ passed → IsPassedOver (scene_of_objects old (length first)) (run_state old first) ((w + k) % length first)
      here k same =
          let at : spot ≡ (w + k) % length first = sweep.place ∙ ap (λ p. (w + p) % length first) (sym same) in
          subst (IsPassedOver (scene_of_objects old (length first)) (run_state old first)) at
          (subst (λ scene. IsPassedOver scene (run_state old first) spot) (scene_stays old now (length tasks) (length first) sweep.stage sweep.count)
          (subst (λ state. IsPassedOver (scene_of_objects now (length tasks)) state spot) sweep.same stays.3))
