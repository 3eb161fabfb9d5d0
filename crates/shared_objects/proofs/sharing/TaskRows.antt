-- Tasks that stand with their seats, one by one.
use Rattle.std.proofs.Common.{◌≡◌, ◌+◌, ◌≤◌, ◌<◌, ℕ, List, [], ◌∷◌, ◌++◌, All, length, get_or, Option, Some, arith, refl, sym, ap, subst, ◌∙◌}
use Rattle.std.proofs.lemmas.List.{length-append, get_or_append_left}
use Rattle.std.proofs.Math.Seq.{get_or-append_seam}
use Rattle.std.proofs.Math.Decide.{ℕ_discrete}
use Rattle.std.proofs.Math.Logic.{dite}
use Rattle.task_steps.specs.TaskViews.{TaskOf}
use Rattle.shared_objects.specs.Opening.{AreFirst, AreTasksAt, IsTaskAt, IsTaskFor}
use Rattle.shared_objects.specs.Rans.{RanState, most_tasks}
use Rattle.shared_objects.specs.declared.locks.Locks.{Locks}
use Rattle.shared_objects.specs.declared.seats.TaskSeats.{TaskSeats}
use Rattle.shared_objects.proofs.row_lemmas.GrowingRows.{Part, in_list, next_so, part_all, part_more}

module _ (locks : Locks) where
  pub no_tasks : AreTasksAt locks [] []
  no_tasks = record { many = refl; each = λ place task slot lt. absurd (omega (arith, lt)) }

  one_task : (n : ℕ) (done : List TaskOf) (slots : List (Option RanState)) (task : TaskOf) (ran : RanState) → length done ≡ n → AreTasksAt locks done slots
      → IsTaskAt locks n task (Some ran) → AreTasksAt locks (done ++ task ∷ []) (slots ++ Some ran ∷ [])
  one_task n done slots task ran long are is =
      let l = length-append done (task ∷ []) in let m = length-append slots (Some ran ∷ []) in let e = are.many in
      record { many = omega (arith, l, m, e); each = λ place t slot lt. at place t slot (omega (arith, lt, l)) }
    where
      at : (place : ℕ) (t : TaskOf) (slot : Option RanState) → place < length done + 1
          → IsTaskAt locks place (get_or (done ++ task ∷ []) place t) (get_or (slots ++ Some ran ∷ []) place slot)
      at place t slot lt = let e = are.many in dite (ℕ_discrete place (length done))
          (λ same. subst (λ k. IsTaskAt locks k (get_or (done ++ task ∷ []) k t) (get_or (slots ++ Some ran ∷ []) k slot)) (sym same)
          (subst (λ s. IsTaskAt locks (length done) (get_or (done ++ task ∷ []) (length done) t) s)
          (sym (ap (λ k. get_or (slots ++ Some ran ∷ []) k slot) (sym e) ∙ get_or-append_seam slots (Some ran) [] slot))
          (subst (λ x. IsTaskAt locks (length done) x (Some ran)) (sym (get_or-append_seam done task [] t))
          (subst (λ k. IsTaskAt locks k task (Some ran)) (sym long) is))))
          (λ apart. subst (λ s. IsTaskAt locks place (get_or (done ++ task ∷ []) place t) s) (sym (get_or_append_left slots (Some ran ∷ []) slot place (omega (arith, lt, apart, e))))
          (subst (λ x. IsTaskAt locks place x (get_or slots place slot)) (sym (get_or_append_left done (task ∷ []) t place (omega (arith, lt, apart))))
          (are.each place t slot (omega (arith, lt, apart)))))

  -- so many tasks were taken, and each stands with its seats
  abbrev pub Standing : List TaskOf → List TaskOf → List (Option RanState) → ℕ → Type 0
  Standing tasks left slots n = Part tasks left (λ done. (length done ≡ n) × AreTasksAt locks done slots)

  module _ (tasks left : List TaskOf) (slots : List (Option RanState)) (n : ℕ) (are : Standing tasks left slots n) where
    module _ (more : List TaskOf) (task : TaskOf) (is : left ≡ task ∷ more) where
      whole : tasks ≡ are.0 ++ task ∷ more
      whole = are.1 ∙ ap (λ l. are.0 ++ l) is

      pub task_for : All (IsTaskFor locks) tasks → IsTaskFor locks task
      task_for all = next_so tasks are.0 more task whole (IsTaskFor locks) all

      pub few_before : length tasks ≤ most_tasks → n < most_tasks
      few_before few = let lt = in_list tasks are.0 more task whole in let long = are.2.0 in omega (arith, lt, long, few)

      pub stands_too : (ran : RanState) (now : List (Option RanState)) → now ≡ slots ++ Some ran ∷ [] → IsTaskAt locks n task (Some ran) → Standing tasks more now (n + 1)
      stands_too ran now added at =
          part_more tasks left more task (λ done. (length done ≡ n) × AreTasksAt locks done slots) (λ done. (length done ≡ n + 1) × AreTasksAt locks done now) are is
          (λ done e was. let l = length-append done (task ∷ []) in let m = was.0 in
          (omega (arith, l, m), subst (AreTasksAt locks (done ++ task ∷ [])) (sym added) (one_task n done slots task ran was.0 was.1 at)))

    pub all_stand : length left ≡ 0 → (length tasks ≡ n) × AreTasksAt locks tasks slots
    all_stand none = part_all tasks left (λ done. (length done ≡ n) × AreTasksAt locks done slots) are none

    pub all_split : (firsts : TaskSeats) → length left ≡ 0 → AreFirst n locks firsts → AreFirst (length tasks) locks firsts
    all_split firsts none first = subst (λ k. AreFirst k locks firsts) (sym (all_stand none).0) first
