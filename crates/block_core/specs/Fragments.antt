-- The fragments that a run has completed, and those that are still to come.
use Rattle.std.specs.Prelude.{◌≡◌, ◌+◌, ◌<◌, ◌≤◌, ◌==◌, ◌&&◌, if◌then◌else◌, ℕ, Bool, List, [], ◌∷◌, ◌++◌, sum_by, Contains}
use Rattle.std.specs.List.{range_with_len, flat_map}
use Rattle.elem_ledger.specs.Ledger.{LedgerId}
use Rattle.stack_base.specs.Tree.{Tree, Leaf, Split, Mirrored, tree}
use Rattle.layout_model.specs.declared.fragment.Fragment.{Fragment}
use Rattle.layout_model.specs.Fragments.{IsFragmentOf}
use Rattle.layout_model.specs.Plan.{plan, leaves}
use Rattle.bio_records.specs.declared.bio.Bio.{Bio}
use Rattle.bio_records.specs.declared.bio.Pad.{Pad}
use Rattle.bio_records.specs.Items.{Item}
use Rattle.bio_records.specs.Runs.{place_number}
use Rattle.run_machine.specs.declared.event.Event.{Event}
use Rattle.run_machine.specs.Scene.{Setup, Scene, tree_at}
use Rattle.run_machine.specs.Requests.{Reply, Completed}
use Rattle.run_machine.specs.Submissions.{rests}
use Rattle.run_machine.specs.Tasks.{Todo, TaskState, Writer, Rescuer, Completer, Keeper}
use Rattle.run_machine.specs.Opened.{Scenario, scene, start, setup_in, todos}
use Rattle.run_machine.specs.Runs.{State, IsRun, HasEnded}
use Rattle.block_core.specs.Weights.{Weight, Spot, Lined, Rescued, Pending, Brought, total_weight, legs_left, no_weight}
use Rattle.block_core.specs.Scenarios.{InEveryRun, IsScenario, IsNaming}

-- the place of a bio's first sector in its write
abbrev pub offset_of : Bio → ℕ
offset_of bio = place_number bio.at

-- the fragment that a bio at a disk is
abbrev pub fragment_of : Bio → Fragment
fragment_of bio = record { write = bio.write; offset = offset_of bio; len = bio.range.len; disk = bio.dev; at = bio.range.start }

-- the fragments that a bio comes to from its device on
abbrev pub bio_fragments : Setup → Bio → List Fragment
bio_fragments setup bio = leaves (plan (tree_at setup bio.dev) bio.write (offset_of bio) bio.range.start bio.range.len)

-- those of one leg of a bio that a mirror copies
abbrev pub leg_fragments : Tree → Bio → ℕ → List Fragment
leg_fragments (Leaf number sectors) bio leg = []
leg_fragments (Split number kind sizes members) bio leg = []
leg_fragments (Mirrored number sizes members) bio leg = leaves (plan (members leg) bio.write (offset_of bio) bio.range.start bio.range.len)

-- those of a write
abbrev pub todo_fragments : Setup → Todo → List Fragment
todo_fragments setup todo = leaves (plan (tree_at setup todo.write.dev) todo.number 0 todo.write.start todo.write.count)

-- What is still to come, where each fragment counts as `value` says: all of a bio in a submission or in a rescue list, the one that a pending bio
-- is, all of the legs that are still to be made, and all of the writes that are still to begin. A bio that its disk is done with has none.
abbrev pub bio_comes : Setup → (Fragment → ℕ) → Spot → Item Pad → ℕ
bio_comes setup value (Lined limit) item = sum_by value (bio_fragments setup item.bio)
bio_comes setup value Rescued item = sum_by value (bio_fragments setup item.bio)
bio_comes setup value Pending item = value (fragment_of item.bio)
bio_comes setup value Brought item = 0

abbrev pub legs_come : Setup → (Fragment → ℕ) → Bio → ℕ → ℕ
legs_come setup value bio leg = sum_by (λ k. sum_by value (leg_fragments (tree_at setup bio.dev) bio k)) (range_with_len leg (legs_left setup bio leg))

abbrev pub to_come : Setup → (Fragment → ℕ) → Weight
to_come setup value = record no_weight {
  todo = λ writer todos taken. sum_by (λ todo. sum_by value (todo_fragments setup todo)) todos;
  bio = bio_comes setup value;
  copy = λ bio master leg. legs_come setup value bio leg;
}

-- the fragment of which a disk replies that it is done
abbrev pub completed_by : Reply → List Fragment
completed_by (Completed index bio status) = fragment_of bio.bio ∷ []
completed_by reply = []

-- the fragments that a run completes, in their order
abbrev pub completed : (scene : Scene) (old : State) (events : List Event) (new : State) → IsRun scene old events new → List Fragment
completed scene old [] new run = []
completed scene old (event ∷ events) new (next, (place, steps), run) = completed_by steps.reply ++ completed scene next events new run

-- the fragments of all writes of a scenario
abbrev pub planned : Scenario → List Fragment
planned s = flat_map (todo_fragments (setup_in s)) (todos s)

-- However fragments count, what a run has completed and what is still to come are together what was planned.
abbrev pub FragmentsAddUp : Type 0
FragmentsAddUp = (s : Scenario) (ledger : ℕ → LedgerId) (events : List Event) (state : State) → IsScenario s → IsNaming ledger
    → (run : IsRun (scene s ledger) (start s) events state) (value : Fragment → ℕ)
    → sum_by value (completed (scene s ledger) (start s) events state run) + total_weight (scene s ledger) (to_come (setup_in s) value) state
    ≡ sum_by value (planned s)

-- whether two fragments are the same in all that they have
abbrev pub equal_fragments : Fragment → Fragment → Bool
equal_fragments f g = f.write == g.write && f.offset == g.offset && f.len == g.len && f.disk.0 == g.disk.0 && f.at == g.at

-- 1 where the second is the first
abbrev pub is_it : Fragment → Fragment → ℕ
is_it f g = if equal_fragments f g then 1 else 0

-- how often a fragment is among these
abbrev pub fragment_count : Fragment → List Fragment → ℕ
fragment_count f fragments = sum_by (is_it f) fragments

-- a fragment of one of the scenario's writes, as the layout has it
abbrev pub IsOfScenario : Scenario → Fragment → Type 0
IsOfScenario s f = (todo : Todo) × Contains (todos s) todo × IsFragmentOf (tree s.stack todo.write.dev.0) todo.number 0 todo.write.start todo.write.count f

-- no run completes a fragment twice, nor one that no write has
abbrev pub NoneIsCompletedTwice : Type 0
NoneIsCompletedTwice = (s : Scenario) (ledger : ℕ → LedgerId) (events : List Event) (state : State) → IsScenario s → IsNaming ledger
    → (run : IsRun (scene s ledger) (start s) events state) (f : Fragment) → fragment_count f (completed (scene s ledger) (start s) events state run) ≤ 1

abbrev pub NoOtherIsCompleted : Type 0
NoOtherIsCompleted = (s : Scenario) (ledger : ℕ → LedgerId) (events : List Event) (state : State) → IsScenario s → IsNaming ledger
    → (run : IsRun (scene s ledger) (start s) events state) (f : Fragment)
    → 0 < fragment_count f (completed (scene s ledger) (start s) events state run) → IsOfScenario s f

-- a task that submits nothing, and has no write to begin
abbrev pub SubmitsNothing : TaskState → Type 0
SubmitsNothing (Writer number todos taken submission) = (todos ≡ []) × (submission ≡ rests)
SubmitsNothing (Rescuer dev submission) = submission ≡ rests
SubmitsNothing (Completer disk carried) = Unit {0}
SubmitsNothing (Keeper keeping) = Unit {0}

-- no task submits or has a write to begin, and no bio waits for a rescuer or in a disk
pub record NothingComes (scene : Scene) (state : State) : Type 0 where
  pub tasks : (place : ℕ) → place < scene.tasks → SubmitsNothing (state.task place)
  pub rescued : (dev : ℕ) → dev < scene.setup.count → state.objects.rescue dev ≡ []
  pub pending : (dev : ℕ) → dev < scene.setup.count → (state.objects.disk dev).pending ≡ []

-- and where nothing is left to come, each fragment of each write was completed exactly once
abbrev pub EachIsCompletedOnce : Type 0
EachIsCompletedOnce = (s : Scenario) (ledger : ℕ → LedgerId) (events : List Event) (state : State) → IsScenario s → IsNaming ledger
    → (run : IsRun (scene s ledger) (start s) events state) → NothingComes (scene s ledger) state → (f : Fragment) → IsOfScenario s f
    → fragment_count f (completed (scene s ledger) (start s) events state run) ≡ 1

-- it has no write that is still to begin
abbrev pub HasBegunAll : TaskState → Type 0
HasBegunAll (Writer number todos taken submission) = todos ≡ []
HasBegunAll (Rescuer dev submission) = Unit {0}
HasBegunAll (Completer disk carried) = Unit {0}
HasBegunAll (Keeper keeping) = Unit {0}

-- no element is out of any pool, and no writer has a write that is still to begin
pub record AllIsHomeAndBegun (scene : Scene) (state : State) : Type 0 where
  pub pools : (number : ℕ) → (state.objects.pool number).facts.out ≡ 0
  pub tasks : (place : ℕ) → place < scene.tasks → HasBegunAll (state.task place)

-- then nothing is left to come
abbrev pub NothingComesWhereAllIsHome : Type 0
NothingComesWhereAllIsHome = InEveryRun (λ s ledger events state. AllIsHomeAndBegun (scene s ledger) state → NothingComes (scene s ledger) state)

-- as it is where a run has ended
abbrev pub NothingComesWhereEnded : Type 0
NothingComesWhereEnded = InEveryRun (λ s ledger events state. HasEnded state → AllIsHomeAndBegun (scene s ledger) state × NothingComes (scene s ledger) state)
