-- Tasks in their order, each found by its name.
use Rattle.std.proofs.Common.{◌≡◌, ◌≢◌, ◌+◌, ◌<◌, ◌≤◌, ◌++◌, inl, inr, ℕ, List, [], ◌∷◌, length, map, sym, ap, ◌∙◌, subst, arith, Some, length-append}
use Rattle.std.specs.Prelude.{slice_get, slice_set}
use Rattle.std.proofs.lemmas.List.{get_or-set_other, get_or-set_same, get_or_append_left, length-map, length-set, map-append}
use Rattle.std.proofs.lemmas.List.Elements.{All-push, All-weaker}
use Rattle.std.proofs.lemmas.Option.{slice_get-get_or, slice_get_within, get_or_from_slice_get}
use Rattle.std.proofs.Math.Seq.{get_or-append_seam}
use Rattle.stack_base.proofs.NumberLemmas.{below_or_last}
use Rattle.run_machine.specs.Events.{id_of}
use Rattle.run_machine.specs.Opened.{no_task}
use Rattle.run_machine.specs.Tasks.{TaskState}
use Rattle.plain_core.specs.declared.steps.task.Task.{Task}
use Rattle.plain_core.specs.Cores.{AreFound, slot_of, task_at}
use Rattle.plain_core.specs.opening.Opening.{AreTasksEntered, EntersTasks}
use Rattle.plain_core.specs.steps.Views.{task_of_plain}

-- what stands at a place of a changed table
get_set_same : (xs : List ℕ) (i y : ℕ) → i < length xs → slice_get (slice_set xs i y) i ≡ Some y
get_set_same xs i y lt =
    slice_get-get_or (slice_set xs i y) i y (omega (arith, lt, length-set xs i y)) ∙ ap Some (get_or-set_same xs i y y lt)

get_set_other : (xs : List ℕ) (i j x y : ℕ) → j ≢ i → slice_get xs j ≡ Some x → slice_get (slice_set xs i y) j ≡ Some x
get_set_other xs i j x y ne is =
    let lt = slice_get_within xs j x is in
    slice_get-get_or (slice_set xs i y) j x (omega (arith, lt, length-set xs i y))
    ∙ ap Some (get_or-set_other xs i j y x ne ∙ get_or_from_slice_get xs j x x is)

module _ (tasks : List TaskState) (task : TaskState) (places : List ℕ) (so_far : AreTasksEntered tasks places (slot_of (id_of task))) (small : slot_of (id_of task) < 73) where
  found_with : AreFound (slice_set places (slot_of (id_of task)) (length tasks)) (tasks ++ task ∷ [])
  found_with k lt =
      elim (below_or_last k (length tasks) (omega (arith, lt, length-append tasks (task ∷ [])))) [
        | inl before ↦
            let same : task_at (tasks ++ task ∷ []) k ≡ task_at tasks k = get_or_append_left tasks (task ∷ []) no_task k before in
            let lower = so_far.below k no_task before in
            subst (λ t. slice_get (slice_set places (slot_of (id_of task)) (length tasks)) (slot_of (id_of t)) ≡ Some k) (sym same)
            (get_set_other places (slot_of (id_of task)) (slot_of (id_of (task_at tasks k))) k (length tasks) (λ e. omega (arith, lower, e)) (so_far.found k before))
        | inr last ↦
            let same : task_at (tasks ++ task ∷ []) k ≡ task = ap (task_at (tasks ++ task ∷ [])) last ∙ get_or-append_seam tasks task [] no_task in
            subst (λ t. slice_get (slice_set places (slot_of (id_of task)) (length tasks)) (slot_of (id_of t)) ≡ Some k) (sym same)
            (get_set_same places (slot_of (id_of task)) (length tasks) (omega (arith, small, so_far.long)) ∙ ap Some (sym last))
      ]

  pub entered_with : AreTasksEntered (tasks ++ task ∷ []) (slice_set places (slot_of (id_of task)) (length tasks)) (slot_of (id_of task) + 1)
  entered_with = record {
    found = found_with;
    below = All-push (λ t. slot_of (id_of t) < slot_of (id_of task) + 1) tasks task
        (All-weaker (λ t. slot_of (id_of t) < slot_of (id_of task)) (λ t. slot_of (id_of t) < slot_of (id_of task) + 1) (λ t lt. omega (arith, lt)) tasks so_far.below)
        (omega arith);
    few = omega (arith, so_far.few, length-append tasks (task ∷ []));
    long = length-set places (slot_of (id_of task)) (length tasks) ∙ so_far.long;
  }

-- a task was entered
pub enters_one : (old new : List Task) (task : Task) (places after : List ℕ) → AreTasksEntered (map task_of_plain old) places (slot_of (id_of (task_of_plain task)))
    → slot_of (id_of (task_of_plain task)) < 73 → new ≡ old ++ task ∷ [] → after ≡ slice_set places (slot_of (id_of (task_of_plain task))) (length old)
    → EntersTasks old (task_of_plain task ∷ []) new after (slot_of (id_of (task_of_plain task)) + 1)
enters_one old new task places after so_far small is_new is_after =
    let tasks : map task_of_plain new ≡ map task_of_plain old ++ task_of_plain task ∷ [] = ap (map task_of_plain) is_new ∙ map-append task_of_plain old (task ∷ []) in
    let table : after ≡ slice_set places (slot_of (id_of (task_of_plain task))) (length (map task_of_plain old)) =
    is_after ∙ ap (slice_set places (slot_of (id_of (task_of_plain task)))) (sym (length-map old task_of_plain)) in (
      tasks,
      subst (λ ts. AreTasksEntered ts after (slot_of (id_of (task_of_plain task)) + 1)) (sym tasks)
          (subst (λ ps. AreTasksEntered (map task_of_plain old ++ task_of_plain task ∷ []) ps (slot_of (id_of (task_of_plain task)) + 1)) (sym table)
          (entered_with (map task_of_plain old) (task_of_plain task) places so_far small)),
    )

-- a slot higher, nothing changes
pub entered_on : (tasks : List TaskState) (places : List ℕ) (slot more : ℕ) → slot ≤ more → AreTasksEntered tasks places slot → AreTasksEntered tasks places more
entered_on tasks places slot more le entered = record {
  found = entered.found;
  below = All-weaker (λ t. slot_of (id_of t) < slot) (λ t. slot_of (id_of t) < more) (λ t lt. omega (arith, lt, le)) tasks entered.below;
  few = omega (arith, le, entered.few);
  long = entered.long;
}
