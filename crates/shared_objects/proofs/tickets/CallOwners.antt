-- Each call of a history is in the log of its task, and each call of a log in the history of its object.
use Rattle.std.proofs.Common.{◌≡◌, ◌⊎◌, ◌+◌, ◌-◌, ◌<◌, ◌≤◌, ◌++◌, cond, ℕ, zero, suc, Bool, true, nat_lt, List, [], ◌∷◌, Option, None, Some, length, filter, inl, inr, refl, sym, ◌∙◌, ap, subst, arith, get_or}
use Rattle.std.specs.Prelude.{All, Contains, slice_get}
use Rattle.std.proofs.lemmas.Bool.{eq-eqb, lt-ltb}
use Rattle.std.proofs.lemmas.List.Elements.{All-filter, All-contains, All-contains_itself, Contains-append_right, filter-append}
use Rattle.std.proofs.lemmas.Option.{slice_get_cases, slice_get_within, get_or_from_slice_get}
use Rattle.seat_lock.specs.History.{indicator, count, Leads}
use Rattle.seat_lock.proofs.Histories.{count_one, each_in_place}
use Rattle.tick_clock.specs.Tickets.{PassState}
use Rattle.run_machine.specs.Laws.{Object, object_of}
use Rattle.run_machine.specs.Scene.{Setup}
use Rattle.task_core.specs.declared.plain.Plain.{Plain}
use Rattle.object_things.specs.Histories.{Call}
use Rattle.object_things.specs.Stamps.{ThingState}
use Rattle.shared_objects.specs.Calls.{is_same_object}
use Rattle.shared_objects.specs.Closes.{Returned, ClosesAs}
use Rattle.shared_objects.specs.Kinds.{ThingAt, answers_at, opened_at, unasked}
use Rattle.shared_objects.specs.Logs.{HasStopped, IsLogged}
use Rattle.shared_objects.proofs.SameNames.{same_self}

pub record IsSplitAt {X : Type 0} (xs : List X) (x : X) : Type 0 where
  pub before : List X
  pub after : List X
  pub is : xs ≡ before ++ x ∷ after

pub split_at : {X : Type 0} (xs : List X) (x : X) → Contains xs x → IsSplitAt xs x
split_at [] x (k, lt, at) = absurd (omega (arith, lt))
split_at (y ∷ ys) x (zero, lt, at) = record { before = []; after = ys; is = ap (λ z. z ∷ ys) at }
split_at (y ∷ ys) x (suc k, lt, at) =
    let rest = split_at ys x (k, omega (arith, lt), at) in record { before = y ∷ rest.before; after = rest.after; is = ap (λ l. y ∷ l) rest.is }

pub first_there : {X : Type 0} (x : X) (xs : List X) → Contains (x ∷ xs) x
first_there x xs = (0, omega arith, refl)

pub filter_there : {X : Type 0} (p : X → Bool) (xs : List X) (x : X) → Contains xs x → p x ≡ true → Contains (filter p xs) x
filter_there p xs x there is =
    let s = split_at xs x there in
    subst (λ l. Contains l x) (sym (ap (filter p) s.is ∙ filter-append p s.before (x ∷ s.after) ∙ ap (λ b. filter p s.before ++ cond b (x ∷ filter p s.after) (filter p s.after)) is))
    (Contains-append_right (filter p s.before) (x ∷ filter p s.after) x (first_there x (filter p s.after)))

pub of_filter : {X : Type 0} (p : X → Bool) (xs : List X) (x : X) → Contains (filter p xs) x → Contains xs x
of_filter p xs x there = All-contains (Contains xs) (filter p xs) x (All-filter p (Contains xs) xs (All-contains_itself xs)) there

pub at_all : {X : Type 0} (P : X → Type 0) (xs : List X) (i : ℕ) (x : X) → All P xs → slice_get xs i ≡ Some x → P x
at_all P xs i x all is = All-contains P xs x all (i, slice_get_within xs i x is, get_or_from_slice_get xs i x x is)

-- the seat of the task at a place made this call
pub is_mine : (place by : ℕ) → by ≡ place + 1 → nat_lt 0 (count by ((place + 1) ∷ [])) ≡ true
is_mine place by is =
    lt-ltb 0 (count by ((place + 1) ∷ [])) (subst (λ n. 0 < n) (sym (count_one by (place + 1) ∙ ap indicator (eq-eqb (place + 1) by (sym is)))) (omega arith))

module _ (set : Setup) (plain : Plain) (names : List Object) (history : Object → List Call) (left : (name : Object) → ThingState (ThingAt name)) (tasks : List Returned)
    (pass : PassState) (c : ClosesAs set plain names history left tasks pass) where
  pub record IsCallOfTask (name : Object) (call : Call) : Type 0 where
    pub place : ℕ
    pub task : Returned
    pub at : slice_get tasks place ≡ Some task
    pub by : call.by ≡ place + 1
    pub there : Contains task.log call

  pub owner : (name : Object) (call : Call) → Contains (history name) call → IsCallOfTask name call
  owner name call there =
      by_two (slice_get_cases tasks (call.by - 1)).1
    where
      number : (0 < call.by) × (call.by ≤ length tasks)
      number = All-contains (λ (call : Call). (0 < call.by) × (call.by ≤ length tasks)) (history name) call (c.numbers name) there

      by_is : call.by ≡ (call.by - 1) + 1
      by_is = let some = number.0 in omega (arith, some)

      by_two : ((x : Returned) × (call.by - 1 < length tasks) × (slice_get tasks (call.by - 1) ≡ Some x) × (get_or tasks (call.by - 1) x ≡ x)) ⊎ ((length tasks ≤ call.by - 1) × (slice_get tasks (call.by - 1) ≡ None))
          → IsCallOfTask name call
      by_two (inl (task, lt, at, same)) = record {
        place = call.by - 1;
        task = task;
        at = at;
        by = by_is;
        there = of_filter (λ (x : Call). is_same_object name (object_of x.asked)) task.log call
            (subst (λ l. Contains l call) (c.calls name (call.by - 1) task at)
            (filter_there (λ (x : Call). nat_lt 0 (count x.by (((call.by - 1) + 1) ∷ []))) (history name) call there (is_mine (call.by - 1) call.by by_is)));
      }
      by_two (inr (le, none)) = let lt = number.1 in let some = number.0 in absurd (omega (arith, le, lt, some))

  pub logged : (place : ℕ) (task : Returned) → slice_get tasks place ≡ Some task → IsLogged set task.first task.log task.task task.desk × HasStopped set task.log task.task
  logged place task at =
      at_all (λ (task : Returned). IsLogged set task.first task.log task.task task.desk × HasStopped set task.log task.task) tasks place task c.logged at

  pub kept : (place : ℕ) (task : Returned) → slice_get tasks place ≡ Some task → (call : Call) → Contains task.log call → Contains (history (object_of call.asked)) call
  kept place task at call there =
      of_filter (λ (x : Call). nat_lt 0 (count x.by ((place + 1) ∷ []))) (history (object_of call.asked)) call
      (subst (λ l. Contains l call) (sym (c.calls (object_of call.asked) place task at))
      (filter_there (λ (x : Call). is_same_object (object_of call.asked) (object_of x.asked)) task.log call there (same_self (object_of call.asked))))

  -- a call in its place
  pub record IsInPlace (name : Object) (call : Call) : Type 0 where
    pub before : List Call
    pub after : List Call
    pub is : history name ≡ before ++ call ∷ after
    pub here : ThingState (ThingAt name)
    pub next : ThingState (ThingAt name)
    pub leads : Leads (answers_at name) (unasked (opened_at plain name)) before here
    pub answers : answers_at name here call.asked call.told next
    pub rest : Leads (answers_at name) next after (left name)

  pub in_place : (name : Object) (call : Call) → Contains (history name) call → IsInPlace name call
  in_place name call there =
      let p = split_at (history name) call there in
      let r = each_in_place (answers_at name) (unasked (opened_at plain name)) (left name) p.before p.after call
      (subst (λ l. Leads (answers_at name) (unasked (opened_at plain name)) l (left name)) p.is (c.things name)) in
      record { before = p.before; after = p.after; is = p.is; here = r.0; next = r.1; leads = r.2; answers = r.3; rest = r.4 }
