-- The events of all tasks are those of the merge.
use Rattle.std.proofs.Common.{◌≡◌, ◌≤◌, ℕ, suc, List, [], ◌∷◌, Some, length, filter, refl, ◌∙◌, ap, arith}
use Rattle.std.specs.Prelude.{map, min, slice_get, sum_by}
use Rattle.std.proofs.lemmas.List.{length-map}
use Rattle.std.proofs.lemmas.List.Sums.{sum_by-cons}
use Rattle.tick_clock.specs.Tickets.{PassState}
use Rattle.run_machine.specs.Laws.{Object}
use Rattle.run_machine.specs.Opened.{Scenario, setup_in}
use Rattle.run_machine.specs.Opened as opened
use Rattle.task_core.specs.declared.plain.Plain.{Plain}
use Rattle.object_things.specs.Histories.{Call}
use Rattle.object_things.specs.Stamps.{ThingState}
use Rattle.shared_objects.specs.Closes.{Returned, ClosesAs}
use Rattle.shared_objects.specs.Kinds.{ThingAt}
use Rattle.shared_objects.specs.Logs.{events_in}
use Rattle.shared_objects.specs.Rows.{Abreast}
use Rattle.run_merge.specs.Merging.{Ticketed, all_of}
use Rattle.run_merge.proofs.enough_shown.TaskCounts.{all_placed, done_at}
use Rattle.run_merge.proofs.enough_shown.CallEvents.{drawn_entry, event_histories}
use Rattle.run_merge.proofs.enough_shown.PlaceSums.{sum_of_places, by_places}
use Rattle.run_merge.proofs.closing.EventsAndEntries.{sorted_length}
use Rattle.run_merge.proofs.merging.Picked.{is_by}

-- a sum, place by place
total_same : {X : Type 0} (f : X → ℕ) (g : ℕ → ℕ) (xs : List X) → ((k : ℕ) (x : X) → slice_get xs k ≡ Some x → f x ≡ g k) → sum_by f xs ≡ sum_of_places g (length xs)
total_same f g [] each = refl
total_same f g (x ∷ xs) each =
    let here = each 0 x refl in
    let rest = total_same f (λ k. g (suc k)) xs (λ k y at. each (suc k) y at) in
    let more = sum_by-cons f x xs in
    omega (arith, here, rest, more)

module _ (s : Scenario) (plain : Plain) (names : List Object) (history : Object → List Call) (left : (name : Object) → ThingState (ThingAt name)) (tasks : List Returned)
    (pass : PassState) (c : ClosesAs (setup_in s) plain names history left tasks pass) (firsts : map (λ (task : Returned). task.first) tasks ≡ opened.opened_tasks s) where
  one_task : (place : ℕ) (task : Returned) → slice_get tasks place ≡ Some task
      → length (events_in task.log) ≡ length (filter (is_by place) (all_of (event_histories names history)))
  one_task place task at =
      let done = ap (λ (l : List Ticketed). length l) (done_at s plain names history left tasks pass c firsts place task at) in
      let order = sorted_length (filter (is_by place) (all_of (event_histories names history))) in
      let events = length-map (events_in task.log) drawn_entry in
      omega (arith, done, order, events)

  pub all_tasks : sum_by (λ (task : Returned). length (events_in task.log)) tasks ≡ length (all_of (event_histories names history))
  all_tasks =
      total_same (λ (task : Returned). length (events_in task.log)) (λ place. length (filter (is_by place) (all_of (event_histories names history)))) tasks one_task
      ∙ by_places (length tasks) (all_of (event_histories names history)) (all_placed s plain names history left tasks pass c firsts names)

-- sums of numbers that stop at a largest one
module _ {X Y : Type 0} (f : X → ℕ) (g : Y → ℕ) (most : ℕ) where
  pub sums_stop : (xs : List X) (ys : List Y) → Abreast (λ x y. f x ≡ min (g y) most) xs ys → sum_by g ys ≤ most → sum_by f xs ≡ sum_by g ys
  sums_stop [] [] are few = refl
  sums_stop [] (y ∷ ys) are few = absurd (let long = are.lens in omega (arith, long))
  sums_stop (x ∷ xs) [] are few = absurd (let long = are.lens in omega (arith, long))
  sums_stop (x ∷ xs) (y ∷ ys) are few =
      let here = are.each 0 x y (omega arith) in
      let more = sum_by-cons f x xs in
      let less = sum_by-cons g y ys in
      let long = are.lens in
      let rest = sums_stop xs ys (record { lens = omega (arith, long); each = λ place a b lt. are.each (suc place) a b (omega (arith, lt)) }) (omega (arith, few, less)) in
      omega (arith, here, more, less, rest, few)
