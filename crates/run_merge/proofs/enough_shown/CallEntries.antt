-- Histories of calls, as histories of entries.
use Rattle.std.proofs.Common.{◌≡◌, ◌||◌, if◌then◌else◌, Bool, true, false, List, [], ◌∷◌, refl, sym, ◌∙◌, ap}
use Rattle.std.specs.Prelude.{All, IsTrue}
use Rattle.std.specs.List.{list_any}
use Rattle.std.proofs.lemmas.Bool.{true≢false}
use Rattle.std.proofs.lemmas.List.Elements.{All-cons, All-nil, All-map, All-filter, All-append, filter_passes}
use Rattle.run_machine.specs.Laws.{Object, object_of}
use Rattle.object_things.specs.Histories.{Call}
use Rattle.shared_objects.specs.Calls.{is_same_object}
use Rattle.shared_objects.specs.Names.{Apart}
use Rattle.shared_objects.specs.Logs.{is_event, events_in}
use Rattle.shared_objects.proofs.SameNames.{same_is}
use Rattle.run_merge.specs.Merging.{Ticketed, all_of, history_of, AreOfDifferentObjects, AreTagged}
use Rattle.run_merge.proofs.enough_shown.CallEvents.{drawn_entry, ticketed_events, event_histories}
use Rattle.run_merge.proofs.enough_shown.LogLeads.{is_told}

module _ (history : Object → List Call) where
  pub history_is : (name : Object) (names : List Object) → (list_any (is_same_object name) names ≡ false → history name ≡ [])
      → history_of name (event_histories names history) ≡ ticketed_events (history name)
  history_is name [] others = sym (ap ticketed_events (others refl))
  history_is name (n ∷ names) others = by_test (is_same_object name n) refl (λ o. history_is name names o)
    where
      by_test : (b : Bool) → is_same_object name n ≡ b
          → ((list_any (is_same_object name) names ≡ false → history name ≡ []) → history_of name (event_histories names history) ≡ ticketed_events (history name))
          → (if b then ticketed_events (history n) else history_of name (event_histories names history)) ≡ ticketed_events (history name)
      by_test true is rest = ap (λ o. ticketed_events (history o)) (sym (same_is name n is))
      by_test false is rest = rest (λ none. others (ap (λ b. b || list_any (is_same_object name) names) is ∙ none))

  pub all_events : (names : List Object) → All (λ (n : Ticketed). IsTrue (is_event n.entry.asked n.entry.reply)) (all_of (event_histories names history))
  all_events [] = All-nil (λ (n : Ticketed). IsTrue (is_event n.entry.asked n.entry.reply))
  all_events (name ∷ names) =
      All-append (λ (n : Ticketed). IsTrue (is_event n.entry.asked n.entry.reply)) (ticketed_events (history name)) (all_of (event_histories names history))
      (All-map (λ (n : Ticketed). IsTrue (is_event n.entry.asked n.entry.reply)) drawn_entry (events_in (history name)) (filter_passes is_told (history name))) (all_events names)

  pub are_apart : (names : List Object) → Apart is_same_object names → AreOfDifferentObjects (event_histories names history)
  are_apart [] apart = tt
  are_apart (name ∷ names) apart = (others names apart.0, are_apart names apart.1)
    where
      others : (ns : List Object) → list_any (is_same_object name) ns ≡ false → All (λ (other : Object × List Ticketed). is_same_object name other.0 ≡ false) (event_histories ns history)
      others [] none = All-nil (λ (other : Object × List Ticketed). is_same_object name other.0 ≡ false)
      others (n ∷ ns) none = by_test (is_same_object name n) refl none (others ns)
        where
          by_test : (b : Bool) → is_same_object name n ≡ b → (b || list_any (is_same_object name) ns) ≡ false
              → (list_any (is_same_object name) ns ≡ false → All (λ (other : Object × List Ticketed). is_same_object name other.0 ≡ false) (event_histories ns history))
              → All (λ (other : Object × List Ticketed). is_same_object name other.0 ≡ false) (event_histories (n ∷ ns) history)
          by_test true is none rest = absurd (true≢false none)
          by_test false is none rest =
              All-cons (λ (other : Object × List Ticketed). is_same_object name other.0 ≡ false) (n, ticketed_events (history n)) (event_histories ns history) is (rest none)

  pub are_tagged : (names : List Object) → ((name : Object) → All (λ (call : Call). object_of call.asked ≡ name) (history name)) → AreTagged (event_histories names history)
  are_tagged [] named = tt
  are_tagged (name ∷ names) named = (
    All-map (λ (n : Ticketed). object_of n.entry.asked ≡ name) drawn_entry (events_in (history name))
        (All-filter is_told (λ (call : Call). object_of call.asked ≡ name) (history name) (named name)),
    are_tagged names named,
  )
