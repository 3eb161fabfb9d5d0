-- An entry at its place is changed: what is looked up changes at its number alone, and all places stay.
use Rattle.std.proofs.Common.{◌≡◌, ◌<◌, ◌==◌, ℕ, Bool, true, false, List, length, map, get_or, set, Some, refl, sym, ap, subst, ◌∙◌, arith, find, slice_get, slice_index_or}
use Rattle.std.specs.List.{position_or_len}
use Rattle.std.specs.Option.{option_map_or}
use Rattle.std.proofs.lemmas.List.{length-set, map-set, set-get_or}
use Rattle.std.proofs.lemmas.List.Folds.{find_at, find-set, find_past, position_or_len-set}
use Rattle.std.proofs.lemmas.List.Sums.{passes_at_first}
use Rattle.std.proofs.lemmas.Option.{slice_get-get_or}
use Rattle.std.proofs.lemmas.Bool.Decides.{nat_tests}
use Rattle.std.proofs.lemmas.Bool.{eqb-true, eqb-false, eq-eqb}
use Rattle.run_machine.specs.Maps.{upd}
use Rattle.task_core.specs.Tables.{is_entry_of, look_up, IsEntryAt, AreAt}
use Rattle.run_machine.proofs.Frames.{upd_same, upd_other}

not_other : (a b c : ℕ) → a ≡ b → (c == b) ≡ false → (a == c) ≡ false
not_other a b c e q = grind (arith, nat_tests)

module _ {E : Type 0} (key : E → ℕ) (table : List ℕ) (entries : List E) (n i : ℕ) (at : IsEntryAt key table entries n) (place : i ≡ slice_index_or table n 0)
    (entry : E) (is : entry ≡ get_or entries i entry) where
  placed : i ≡ position_or_len (is_entry_of key n) entries
  placed = place ∙ at.first

  inside : i < length entries
  inside = subst (λ k. k < length entries) (sym place) at.there

  -- the entry there is of the number
  pub key_is : key entry ≡ n
  key_is =
      let first : (key (get_or entries (position_or_len (is_entry_of key n) entries) entry) == n) ≡ true =
      passes_at_first (is_entry_of key n) entries entry (subst (λ k. k < length entries) placed inside) in
      eqb-true (key entry) n (ap (λ e. key e == n) (is ∙ ap (λ k. get_or entries k entry) placed) ∙ first)

  found : find (is_entry_of key n) entries ≡ Some entry
  found =
      find_at (is_entry_of key n) entries ∙ ap (slice_get entries) (sym placed) ∙ slice_get-get_or entries i entry inside ∙ ap (λ e. Some e) (sym is)

  pub looked : {X : Type 0} (value : E → X) (none : ℕ → X) → look_up key value none entries n ≡ value entry
  looked value none = ap (λ o. option_map_or value o (none n)) found

  module _ (new : E) (keyed : key new ≡ key entry) where
    changed_at : {X : Type 0} (value : E → X) (none : ℕ → X) (m : ℕ) (b : Bool) → (m == n) ≡ b
        → look_up key value none (set entries i new) m ≡ upd (look_up key value none entries) n (value new) m
    changed_at value none m true q =
        let same : m ≡ n = eqb-true m n q in
        let here : find (is_entry_of key n) (set entries i new) ≡ Some new =
        find-set (is_entry_of key n) entries i new placed inside (eq-eqb (key new) n (keyed ∙ key_is)) in
        ap (look_up key value none (set entries i new)) same
        ∙ ap (λ o. option_map_or value o (none n)) here
        ∙ sym (ap (upd (look_up key value none entries) n (value new)) same ∙ upd_same (look_up key value none entries) n (value new))
    changed_at value none m false q =
        let old : (key (get_or entries i entry) == m) ≡ false = ap (λ e. key e == m) (sym is) ∙ not_other (key entry) n m key_is q in
        let past : find (is_entry_of key m) (set entries i new) ≡ find (is_entry_of key m) entries =
        find_past (is_entry_of key m) entries i new entry old (not_other (key new) n m (keyed ∙ key_is) q) in
        ap (λ o. option_map_or value o (none m)) past
        ∙ sym (upd_other (look_up key value none entries) n (value new) m (eqb-false m n q))

    pub changed : {X : Type 0} (value : E → X) (none : ℕ → X)
        → look_up key value none (set entries i new) ≡ upd (look_up key value none entries) n (value new)
    changed value none = λ k m. changed_at value none m (m == n) refl k

    pub places_stay : (is_used : ℕ → Bool) → AreAt key is_used table entries → AreAt key is_used table (set entries i new)
    places_stay is_used all m used =
        let old : IsEntryAt key table entries m = all m used in
        let tests : (key new == m) ≡ (key (get_or entries i entry) == m) = ap (λ k. k == m) keyed ∙ ap (λ e. key e == m) is in
        let long : length (set entries i new) ≡ length entries = length-set entries i new in
        record {
          there = subst (λ k. slice_index_or table m 0 < k) (sym long) old.there;
          first = old.first ∙ sym (position_or_len-set (is_entry_of key m) entries i new entry tests);
        }

    pub numbers_stay : map key (set entries i new) ≡ map key entries
    numbers_stay =
        map-set key entries i new ∙ ap (set (map key entries) i) (keyed ∙ ap key is) ∙ sym (map-set key entries i (get_or entries i entry))
        ∙ ap (map key) (set-get_or entries i entry)
