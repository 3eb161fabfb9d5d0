-- Entries that are picked of histories: those at an object, and those of a task.
use Rattle.std.proofs.Common.{◌≡◌, ◌==◌, ◌++◌, if◌then◌else◌, cond, ℕ, Bool, true, false, List, [], ◌∷◌, refl, sym, ◌∙◌, ap}
use Rattle.std.specs.Prelude.{All, filter}
use Rattle.std.proofs.lemmas.List.{append-nil}
use Rattle.std.proofs.lemmas.List.Elements.{All-head, All-tail, filter-append}
use Rattle.run_machine.specs.Laws.{Object, object_of}
use Rattle.shared_objects.specs.Calls.{is_same_object}
use Rattle.shared_objects.proofs.SameNames.{same_is}
use Rattle.run_merge.specs.Entries.{Entry}
use Rattle.run_merge.specs.Machines.{entries_at}
use Rattle.run_merge.specs.Products.{entries_by}
use Rattle.run_merge.specs.Merging.{Ticketed, Histories, without_tickets, sorted_by_ticket, RiseFrom, all_of, history_of, AreOfDifferentObjects, AreTagged, done_by}
use Rattle.run_merge.proofs.merging.TicketOrder.{rising_sorted, filter_sorted}

pub entries_filter : (q : Entry → Bool) (ns : List Ticketed) → filter q (without_tickets ns) ≡ without_tickets (filter (λ (n : Ticketed). q n.entry) ns)
entries_filter q [] = refl
entries_filter q (n ∷ ns) = by_test (q n.entry) (entries_filter q ns)
  where
    rest : List Ticketed
    rest = filter (λ (x : Ticketed). q x.entry) ns

    by_test : (b : Bool) → filter q (without_tickets ns) ≡ without_tickets rest
        → cond b (n.entry ∷ filter q (without_tickets ns)) (filter q (without_tickets ns)) ≡ without_tickets (cond b (n ∷ rest) rest)
    by_test true is = ap (λ l. n.entry ∷ l) is
    by_test false is = is

-- it does not matter which test comes first
pub filter_swap : (p q : Ticketed → Bool) (ns : List Ticketed) → filter p (filter q ns) ≡ filter q (filter p ns)
filter_swap p q [] = refl
filter_swap p q (n ∷ ns) = by_tests (p n) (q n) refl refl (filter_swap p q ns)
  where
    by_tests : (a b : Bool) → p n ≡ a → q n ≡ b → filter p (filter q ns) ≡ filter q (filter p ns)
        → filter p (cond b (n ∷ filter q ns) (filter q ns)) ≡ filter q (cond a (n ∷ filter p ns) (filter p ns))
    by_tests true true x y is =
        ap (λ b. cond b (n ∷ filter p (filter q ns)) (filter p (filter q ns))) x ∙ ap (λ l. n ∷ l) is
        ∙ sym (ap (λ b. cond b (n ∷ filter q (filter p ns)) (filter q (filter p ns))) y)
    by_tests true false x y is = is ∙ sym (ap (λ b. cond b (n ∷ filter q (filter p ns)) (filter q (filter p ns))) y)
    by_tests false true x y is = ap (λ b. cond b (n ∷ filter p (filter q ns)) (filter p (filter q ns))) x ∙ is
    by_tests false false x y is = is

abbrev pub is_at : Object → Ticketed → Bool
is_at name n = is_same_object name (object_of n.entry.asked)

abbrev pub is_by : ℕ → Ticketed → Bool
is_by place n = place == n.entry.place

-- of all entries, those at an object are its history
pick_tagged : (name other : Object) (same : Bool) → is_same_object name other ≡ same → (ns : List Ticketed) → All (λ (n : Ticketed). object_of n.entry.asked ≡ other) ns
    → filter (is_at name) ns ≡ cond same ns []
pick_tagged name other true same [] a = refl
pick_tagged name other false same [] a = refl
pick_tagged name other true same (n ∷ ns) a =
    ap (λ b. cond b (n ∷ filter (is_at name) ns) (filter (is_at name) ns)) (ap (is_same_object name) (All-head (λ (x : Ticketed). object_of x.entry.asked ≡ other) n ns a) ∙ same)
    ∙ ap (λ l. n ∷ l) (pick_tagged name other true same ns (All-tail (λ (x : Ticketed). object_of x.entry.asked ≡ other) n ns a))
pick_tagged name other false same (n ∷ ns) a =
    ap (λ b. cond b (n ∷ filter (is_at name) ns) (filter (is_at name) ns)) (ap (is_same_object name) (All-head (λ (x : Ticketed). object_of x.entry.asked ≡ other) n ns a) ∙ same)
    ∙ pick_tagged name other false same ns (All-tail (λ (x : Ticketed). object_of x.entry.asked ≡ other) n ns a)

none_among : (name : Object) (hs : Histories) → All (λ (other : Object × List Ticketed). is_same_object name other.0 ≡ false) hs → history_of name hs ≡ []
none_among name [] apart = refl
none_among name (h ∷ hs) apart =
    ap (λ b. if b then h.1 else history_of name hs) (All-head (λ (other : Object × List Ticketed). is_same_object name other.0 ≡ false) h hs apart)
    ∙ none_among name hs (All-tail (λ (other : Object × List Ticketed). is_same_object name other.0 ≡ false) h hs apart)

pub at_is : (name : Object) (hs : Histories) → AreOfDifferentObjects hs → AreTagged hs → filter (is_at name) (all_of hs) ≡ history_of name hs
at_is name [] apart tagged = refl
at_is name (h ∷ hs) apart tagged =
    filter-append (is_at name) h.1 (all_of hs) ∙ ap (λ l. filter (is_at name) h.1 ++ l) (at_is name hs apart.1 tagged.1) ∙ by_test (is_same_object name h.0) refl
  where
    by_test : (b : Bool) → is_same_object name h.0 ≡ b → filter (is_at name) h.1 ++ history_of name hs ≡ (if b then h.1 else history_of name hs)
    by_test true same =
        ap (λ l. l ++ history_of name hs) (pick_tagged name h.0 true same h.1 tagged.0)
        ∙ ap (λ l. h.1 ++ l) (ap (λ n. history_of n hs) (same_is name h.0 same) ∙ none_among h.0 hs apart.0) ∙ append-nil h.1
    by_test false same = ap (λ l. l ++ history_of name hs) (pick_tagged name h.0 false same h.1 tagged.0)

-- so it is in the merge, and those of a task are what it did
module _ (hs : Histories) where
  pub merge_at : AreOfDifferentObjects hs → AreTagged hs → ((name : Object) → RiseFrom 0 (history_of name hs)) → (name : Object) → filter (is_at name) (sorted_by_ticket (all_of hs)) ≡ history_of name hs
  merge_at apart tagged rises name = filter_sorted (is_at name) (all_of hs) ∙ ap sorted_by_ticket (at_is name hs apart tagged) ∙ rising_sorted 0 (history_of name hs) (rises name)

  pub merge_by : (place : ℕ) → filter (is_by place) (sorted_by_ticket (all_of hs)) ≡ done_by place hs
  merge_by place = filter_sorted (is_by place) (all_of hs)

  pub merge_entries_at : AreOfDifferentObjects hs → AreTagged hs → ((name : Object) → RiseFrom 0 (history_of name hs)) → (name : Object)
      → entries_at name (without_tickets (sorted_by_ticket (all_of hs))) ≡ without_tickets (history_of name hs)
  merge_entries_at apart tagged rises name =
      entries_filter (λ (e : Entry). is_same_object name (object_of e.asked)) (sorted_by_ticket (all_of hs)) ∙ ap without_tickets (merge_at apart tagged rises name)

  pub merge_entries_by : (place : ℕ) → entries_by place (without_tickets (sorted_by_ticket (all_of hs))) ≡ without_tickets (done_by place hs)
  merge_entries_by place = entries_filter (λ (e : Entry). place == e.place) (sorted_by_ticket (all_of hs)) ∙ ap without_tickets (merge_by place)
