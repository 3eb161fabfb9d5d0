-- Each call of a log asks an object that has a name, of which there is a history.
use Rattle.std.proofs.Common.{◌≡◌, ◌||◌, ℕ, Bool, true, false, List, [], ◌∷◌, Some, refl, sym, ◌∙◌, ap, subst, arith}
use Rattle.std.specs.Prelude.{Contains, slice_get}
use Rattle.std.specs.List.{list_any}
use Rattle.std.proofs.lemmas.Bool.{true≢false, or_parts}
use Rattle.std.proofs.lemmas.List.Elements.{All-contains_itself, All-weaker}
use Rattle.tick_clock.specs.Tickets.{PassState}
use Rattle.run_machine.specs.Laws.{Object, OfNone, object_of}
use Rattle.run_machine.specs.Opened.{Scenario, setup_in}
use Rattle.task_core.specs.declared.plain.Plain.{Plain}
use Rattle.object_things.specs.Histories.{Call}
use Rattle.object_things.specs.Stamps.{ThingState}
use Rattle.shared_objects.specs.Calls.{is_same_object}
use Rattle.shared_objects.specs.Closes.{Returned, ClosesAs}
use Rattle.shared_objects.specs.Kinds.{ThingAt}
use Rattle.shared_objects.proofs.SameNames.{same_self, same_is}
use Rattle.shared_objects.proofs.tickets.CallOwners.{filter_there, logged, kept}
use Rattle.run_merge.proofs.enough_shown.LogLeads.{AskSome}

-- objects that are not the same are not so from either side
pub apart_both_ways : (a b : Object) → is_same_object a b ≡ false → is_same_object b a ≡ false
apart_both_ways a b not = by_test (is_same_object b a) refl
  where
    by_test : (t : Bool) → is_same_object b a ≡ t → t ≡ false
    by_test true is = absurd (true≢false (sym (ap (λ o. is_same_object a o) (same_is b a is) ∙ same_self a) ∙ not))
    by_test false is = refl

none_turned : (o : Object) (names : List Object) → list_any (λ name. is_same_object name o) names ≡ false → list_any (is_same_object o) names ≡ false
none_turned o [] none = refl
none_turned o (name ∷ names) none =
    let parts = or_parts (is_same_object name o) (list_any (λ n. is_same_object n o) names) none in
    let first = apart_both_ways name o parts.0 in
    let rest = none_turned o names parts.1 in
    ap (λ b. b || list_any (is_same_object o) names) first ∙ rest

none_in : {X Y : Type 0} (x : X) → Contains [] x → Y
none_in x (k, lt, at) = absurd (omega (arith, lt))

module _ (s : Scenario) (plain : Plain) (names : List Object) (history : Object → List Call) (left : (name : Object) → ThingState (ThingAt name)) (tasks : List Returned)
    (pass : PassState) (c : ClosesAs (setup_in s) plain names history left tasks pass) where
  -- each call of a log asks some object, of which there is a history
  pub ask_some : (place : ℕ) (task : Returned) → slice_get tasks place ≡ Some task → AskSome task.log
  ask_some place task at = All-weaker (Contains task.log) (λ (call : Call). object_of call.asked ≡ OfNone → ⊥) none task.log (All-contains_itself task.log)
    where
      none : (call : Call) → Contains task.log call → object_of call.asked ≡ OfNone → ⊥
      none call there is =
          none_in call (subst (λ l. Contains l call) (sym ((logged (setup_in s) plain names history left tasks pass c place task at).0.calls OfNone))
          (filter_there (λ (x : Call). is_same_object OfNone (object_of x.asked)) task.log call there (ap (is_same_object OfNone) is)))

  pub named : (place : ℕ) (task : Returned) → slice_get tasks place ≡ Some task → (call : Call) → Contains task.log call
      → list_any (λ name. is_same_object name (object_of call.asked)) names ≡ true
  named place task at call there = by_test (list_any (λ name. is_same_object name (object_of call.asked)) names) refl
    where
      by_test : (b : Bool) → list_any (λ name. is_same_object name (object_of call.asked)) names ≡ b → b ≡ true
      by_test true is = refl
      by_test false is =
          none_in call (subst (λ l. Contains l call) (c.others (object_of call.asked) (none_turned (object_of call.asked) names is)) (kept (setup_in s) plain names history left tasks pass c place task at call there))
