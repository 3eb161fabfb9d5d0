-- An object that was not shared has no history.
use Rattle.std.proofs.Common.{◌≡◌, ◌==◌, ℕ, Bool, true, false, List, [], ◌∷◌, refl, sym, ◌∙◌, map, true≢false}
use Rattle.std.specs.Prelude.{◌++◌, if◌then◌else◌}
use Rattle.std.specs.List.{list_any}
use Rattle.std.proofs.lemmas.Bool.{or_parts}
use Rattle.stack_base.proofs.NumberLemmas.{eqb_flips}
use Rattle.run_machine.specs.Laws.{Object, OfPool, OfRescuer, OfDisk, OfBook, OfTally, OfNone}
use Rattle.task_core.specs.Plains.{is_bios_number}
use Rattle.task_core.specs.Tables.{look_up}
use Rattle.object_things.specs.Histories.{Call}
use Rattle.shared_objects.specs.Calls.{is_same_object}
use Rattle.shared_objects.specs.ClosedByName.{history_in, names_of}
use Rattle.shared_objects.specs.Holding.{dev_key, set_key, slip_key, writer_key}
use Rattle.shared_objects.specs.declared.closed.Closed.{Closed}

apart_any : {X : Type 0} (p : X → Bool) (xs ys : List X) → list_any p (xs ++ ys) ≡ false → (list_any p xs ≡ false) × (list_any p ys ≡ false)
apart_any p [] ys e = (refl, e)
apart_any p (x ∷ xs) ys e =
    let parts = or_parts (p x) (list_any p (xs ++ ys)) e in let rest = apart_any p xs ys parts.1 in (rw (parts.0) rest.0, rest.1)

not_there : {E X : Type 0} (name : Object) (n : ℕ) (key : E → ℕ) (of : E → Object) (value : E → X) (none : ℕ → X) → ((e : E) → is_same_object name (of e) ≡ (n == key e))
    → (es : List E) → list_any (is_same_object name) (map of es) ≡ false → look_up key value none es n ≡ none n
not_there name n key of value none same [] e = refl
not_there name n key of value none same (x ∷ xs) e =
    let parts = or_parts (is_same_object name (of x)) (list_any (is_same_object name) (map of xs)) e in
    let other : (key x == n) ≡ false = eqb_flips (key x) n ∙ sym (same x) ∙ parts.0 in
    let rest = not_there name n key of value none same xs parts.1 in rw (other) rest

module _ (closed : Closed) where
  abbrev AreNone : Object → Type 0
  AreNone name = list_any (is_same_object name) (names_of closed) ≡ false

  -- the parts of the list of names
  parts_of : (name : Object) → AreNone name
      → (list_any (is_same_object name) (map (λ entry. OfPool (set_key entry.0)) closed.bios.items) ≡ false) × (is_same_object name (OfPool 64) ≡ false)
      × (list_any (is_same_object name) (map (λ entry. OfPool (slip_key entry.0)) closed.records.items) ≡ false)
      × (list_any (is_same_object name) (map (λ entry. OfRescuer (dev_key entry.0)) closed.lists.items) ≡ false)
      × (list_any (is_same_object name) (map (λ shut. OfDisk shut.thing.object.dev.0) closed.disks.items) ≡ false)
      × (list_any (is_same_object name) (map (λ entry. OfBook (writer_key entry.0)) closed.books.items) ≡ false) × (is_same_object name OfTally ≡ false)
  parts_of name none =
      let bios = apart_any (is_same_object name) (map (λ entry. OfPool (set_key entry.0)) closed.bios.items) _ none in
      let vecs = or_parts (is_same_object name (OfPool 64)) _ bios.1 in
      let records = apart_any (is_same_object name) (map (λ entry. OfPool (slip_key entry.0)) closed.records.items) _ vecs.1 in
      let lists = apart_any (is_same_object name) (map (λ entry. OfRescuer (dev_key entry.0)) closed.lists.items) _ records.1 in
      let disks = apart_any (is_same_object name) (map (λ shut. OfDisk shut.thing.object.dev.0) closed.disks.items) _ lists.1 in
      let books = apart_any (is_same_object name) (map (λ entry. OfBook (writer_key entry.0)) closed.books.items) _ disks.1 in
      (bios.0, vecs.0, records.0, lists.0, disks.0, books.0, (or_parts (is_same_object name OfTally) false books.1).0)

  pub others_in : (name : Object) → AreNone name → history_in closed name ≡ []
  others_in (OfPool n) none =
      let parts = parts_of (OfPool n) none in
      by_case closed.vecs.told.value.known.seen _ _ (n == 64) (is_bios_number n) parts.1
      (not_there (OfPool n) n (λ entry. set_key entry.0) (λ entry. OfPool (set_key entry.0)) (λ entry. entry.1.told.value.known.seen) (λ m. []) (λ entry. refl) closed.bios.items parts.0)
      (not_there (OfPool n) n (λ entry. slip_key entry.0) (λ entry. OfPool (slip_key entry.0)) (λ entry. entry.1.told.value.known.seen) (λ m. []) (λ entry. refl) closed.records.items parts.2)
    where
      by_case : (vecs bios records : List Call) (is_vecs of_set : Bool) → is_vecs ≡ false → bios ≡ [] → records ≡ []
          → (if is_vecs then vecs else if of_set then bios else records) ≡ []
      by_case vecs bios records true of_set apart b r = absurd (true≢false apart)
      by_case vecs bios records false true apart b r = b
      by_case vecs bios records false false apart b r = r
  others_in (OfRescuer dev) none =
      not_there (OfRescuer dev) dev (λ entry. dev_key entry.0) (λ entry. OfRescuer (dev_key entry.0)) (λ entry. entry.1.told.value.known.seen) (λ m. []) (λ entry. refl) closed.lists.items
      (parts_of (OfRescuer dev) none).3
  others_in (OfDisk dev) none =
      not_there (OfDisk dev) dev (λ shut. shut.thing.object.dev.0) (λ shut. OfDisk shut.thing.object.dev.0) (λ shut. shut.told.value.known.seen) (λ m. []) (λ shut. refl) closed.disks.items
      (parts_of (OfDisk dev) none).4
  others_in (OfBook writer) none =
      not_there (OfBook writer) writer (λ entry. writer_key entry.0) (λ entry. OfBook (writer_key entry.0)) (λ entry. entry.1.told.value.known.seen) (λ m. []) (λ entry. refl) closed.books.items
      (parts_of (OfBook writer) none).5
  others_in OfTally none = absurd (true≢false (parts_of OfTally none).6)
  others_in OfNone none = refl
