-- A container stays sound as a value comes to a place, and as one goes.
use Rattle.std.proofs.Common.{◌≡◌, ℕ, zero, suc, ◌+◌, ◌<◌, List, [], ◌∷◌, ◌++◌, length, map, Option, None, Some, IsSome, All, refl, sym, ◌∙◌, ap, subst, arith, inl, inr}
use Rattle.std.specs.Prelude.{slice_get, slice_set}
use Rattle.std.proofs.lemmas.Bool.{cases_eq}
use Rattle.std.proofs.lemmas.List.{length-set, get_or-set_same, get_or-set_other, length-map}
use Rattle.std.proofs.lemmas.List.Elements.{All-cons, All-nil}
use Rattle.slab.specs.Slab.{Slab, get, slab_len, Updates}
use Rattle.bio_books.specs.Kept.{IsPlaced, key_at, keyed, free_count, vacancy, look}
use Rattle.bio_books.proofs.Numbered.{longer}
use Rattle.bio_books.proofs.Keys.{get_written, get_other, key_read, key_within, read_within, keyed_more, keyed_less, all_keyed, some_keyed, none_keyed, times_itself, times_other, free_once}
use Rattle.bio_books.proofs.Slots.{shown, altered, read_look}

-- what has a value is not without one
nothing : {X : Type 0} (x : Option X) → x ≡ None → IsSome x → ⊥
nothing None e some = absurd (cc)
nothing (Some x) e some = absurd (cc)

-- two keys of which one has a value and the other has none are not one
differ : {T : Type 0} (slots : Slab T) (key other : ℕ) → get slots key ≡ None → IsSome (get slots other) → other ≡ key → ⊥
differ slots key other none some same = nothing (get slots other) (ap (get slots) same ∙ none) some

-- what a container is after a step: sound, with this at the place
pub record Stepped {T : Type 0} (old new : Slab T) (keys : List (Option ℕ)) (free : List ℕ) (room place : ℕ) (slot : Option ℕ) (value : Option T) : Type 0 where
  pub within : place < length keys
  pub sound : IsPlaced new (slice_set keys place slot) free room
  pub shows : map (look new) (slice_set keys place slot) ≡ slice_set (map (look old) keys) place value

-- the last free place is in range and has no key
pub last_free : {T : Type 0} (slots : Slab T) (keys : List (Option ℕ)) (free : List ℕ) (room place : ℕ)
    → IsPlaced slots keys (free ++ place ∷ []) room → (slice_get keys place ≡ Some None) × (free_count place free ≡ 0)
last_free slots keys free room place sound = free_once (slice_get keys place) (free_count place free) (sym (times_itself free place) ∙ sound.vacant place)

-- a value comes
pub comes : {T : Type 0} (old new : Slab T) (keys : List (Option ℕ)) (free : List ℕ) (room place key : ℕ) (value : T)
    → IsPlaced old keys (free ++ place ∷ []) room → get old key ≡ None → Updates old new key (Some value)
    → slab_len new ≡ slab_len old + 1 → new.capacity ≡ old.capacity → Stepped old new keys free room place (Some key) (Some value)
comes {T} old new keys free room place key value sound absent updates counted capacity =
    let here = last_free old keys free room place sound in
    let within : place < length keys = read_within keys place None here.0 in
    let written : key_at (slice_set keys place (Some key)) place ≡ Some key = get_or-set_same keys place (Some key) None within in
    let others : (other : ℕ) → (other ≡ place → ⊥) → key_at (slice_set keys place (Some key)) other ≡ key_at keys other =
    λ other differs. get_or-set_other keys place other (Some key) None differs in
    let kept : (other k : ℕ) → key_at keys other ≡ Some k → get new k ≡ get old k =
    λ other k found. updates.others k (differ old key k absent (sound.taken other k found)) in
    record {
      within = within;
      shows = shown old new keys place (Some key) (Some value) within updates.changed (λ other k differs found. kept other k found);
      sound = record {
        slots_room = omega (arith, sound.slots_room, capacity, length-set keys place (Some key));
        free_room = omega (arith, sound.free_room, length-set keys place (Some key));
        numbers = omega (arith, sound.numbers, length-set keys place (Some key));
        counted = omega (arith, sound.counted, keyed_more keys place key here.0, length-set keys place (Some key), longer free place);
        named = omega (arith, sound.named, counted, keyed_more keys place key here.0);
        vacant = λ other. elim (cases_eq other place) [
          | inl same ↦ ap (λ p. free_count p free) same ∙ here.1 ∙ sym (ap (λ p. vacancy (slice_get (slice_set keys place (Some key)) p)) same
              ∙ ap vacancy (get_written keys place (Some key) within))
          | inr differs ↦ sym (times_other free place other differs) ∙ sound.vacant other ∙ ap vacancy (sym (get_other keys place other (Some key) differs))
        ];
        taken = λ other k found. elim (cases_eq other place) [
          | inl same ↦ has new key k value updates.changed (sym written ∙ ap (key_at (slice_set keys place (Some key))) (sym same) ∙ found)
          | inr differs ↦ let was : key_at keys other ≡ Some k = sym (others other differs) ∙ found in
              subst IsSome (sym (kept other k was)) (sound.taken other k was)
        ];
        distinct = λ one other k first second. elim (cases_eq one place) [
          | inl same ↦ elim (cases_eq other place) [
            | inl also ↦ same ∙ sym also
            | inr differs ↦ absurd (clash other k differs second (sym written ∙ ap (key_at (slice_set keys place (Some key))) (sym same) ∙ first))
          ]
          | inr differs ↦ elim (cases_eq other place) [
            | inl same ↦ absurd (clash one k differs first (sym written ∙ ap (key_at (slice_set keys place (Some key))) (sym same) ∙ second))
            | inr also ↦ sound.distinct one other k (sym (others one differs) ∙ first) (sym (others other also) ∙ second)
          ]
        ];
      };
    }
  where
    has : (slots : Slab T) (key k : ℕ) (value : T) → get slots key ≡ Some value → Some key ≡ Some k → IsSome (get slots k)
    has slots key k value found same = let e : key ≡ k = cc in subst (λ x. IsSome (get slots x)) e (subst IsSome (sym found) refl)

    clash : (other k : ℕ) → (other ≡ place → ⊥) → key_at (slice_set keys place (Some key)) other ≡ Some k → Some key ≡ Some k → ⊥
    clash other k differs found same =
        let e : k ≡ key = cc in
        differ old key k absent (sound.taken other k (sym (get_or-set_other keys place other (Some key) None differs) ∙ found)) e

-- a value goes
pub goes : {T : Type 0} (old new : Slab T) (keys : List (Option ℕ)) (free : List ℕ) (room place key : ℕ)
    → IsPlaced old keys free room → key_at keys place ≡ Some key → Updates old new key None
    → slab_len new + 1 ≡ slab_len old → new.capacity ≡ old.capacity → Stepped old new keys (free ++ place ∷ []) room place None None
goes {T} old new keys free room place key sound found updates counted capacity =
    let within : place < length keys = key_within keys place key found in
    let others : (other : ℕ) → (other ≡ place → ⊥) → key_at (slice_set keys place None) other ≡ key_at keys other =
    λ other differs. get_or-set_other keys place other None None differs in
    let gone : key_at (slice_set keys place None) place ≡ None = get_or-set_same keys place None None within in
    let kept : (other k : ℕ) → (other ≡ place → ⊥) → key_at keys other ≡ Some k → get new k ≡ get old k =
    λ other k differs was. updates.others k (λ e. differs (sound.distinct other place key (was ∙ ap Some e) found)) in
    record {
      within = within;
      shows = shown old new keys place None None within refl kept;
      sound = record {
        slots_room = omega (arith, sound.slots_room, capacity, length-set keys place None);
        free_room = omega (arith, sound.free_room, length-set keys place None);
        numbers = omega (arith, sound.numbers, length-set keys place None);
        counted = omega (arith, sound.counted, keyed_less keys place key found, length-set keys place None, longer free place);
        named = omega (arith, sound.named, counted, keyed_less keys place key found);
        vacant = λ other. elim (cases_eq other place) [
          | inl same ↦ ap (λ p. free_count p (free ++ place ∷ [])) same ∙ times_itself free place
              ∙ ap (λ n. n + 1) (sound.vacant place ∙ ap vacancy (key_read keys place key found))
              ∙ sym (ap (λ p. vacancy (slice_get (slice_set keys place None) p)) same ∙ ap vacancy (get_written keys place None within))
          | inr differs ↦ times_other free place other differs ∙ sound.vacant other ∙ ap vacancy (sym (get_other keys place other None differs))
        ];
        taken = λ other k was. elim (cases_eq other place) [
          | inl same ↦ absurd (never k (sym gone ∙ ap (key_at (slice_set keys place None)) (sym same) ∙ was))
          | inr differs ↦ let before : key_at keys other ≡ Some k = sym (others other differs) ∙ was in
              subst IsSome (sym (kept other k differs before)) (sound.taken other k before)
        ];
        distinct = λ one other k first second. elim (cases_eq one place) [
          | inl same ↦ absurd (never k (sym gone ∙ ap (key_at (slice_set keys place None)) (sym same) ∙ first))
          | inr differs ↦ elim (cases_eq other place) [
            | inl same ↦ absurd (never k (sym gone ∙ ap (key_at (slice_set keys place None)) (sym same) ∙ second))
            | inr also ↦ sound.distinct one other k (sym (others one differs) ∙ first) (sym (others other also) ∙ second)
          ]
        ];
      };
    }
  where
    never : (k : ℕ) → None ≡ Some k → ⊥
    never k e = cc

-- a value is changed where it stands
pub changes : {T : Type 0} (old new : Slab T) (keys : List (Option ℕ)) (free : List ℕ) (room place key : ℕ) (value : T)
    → IsPlaced old keys free room → key_at keys place ≡ Some key → Updates old new key (Some value)
    → map (look new) keys ≡ slice_set (map (look old) keys) place (Some value)
changes old new keys free room place key value sound found updates =
    altered old new keys place key value found updates.changed
    (λ other k differs was. updates.others k (λ e. differs (sound.distinct other place key (was ∙ ap Some e) found)))

-- where no place is free, a value stands at each
pub full : {T : Type 0} (slots : Slab T) (keys : List (Option ℕ)) (free : List ℕ) (room : ℕ)
    → IsPlaced slots keys free room → length free ≡ 0 → All IsSome (map (look slots) keys)
full slots keys free room sound none = every slots keys (λ place. all_keyed keys place (omega (arith, sound.counted, none))) sound.taken
  where
    every : {T : Type 0} (slots : Slab T) (keys : List (Option ℕ)) → ((place : ℕ) → slice_get keys place ≡ Some None → ⊥)
        → ((place key : ℕ) → key_at keys place ≡ Some key → IsSome (get slots key)) → All IsSome (map (look slots) keys)
    every slots [] some taken = All-nil IsSome
    every slots (None ∷ keys) some taken = absurd (some zero refl)
    every slots (Some key ∷ keys) some taken =
        All-cons IsSome (get slots key) (map (look slots) keys) (taken zero key refl)
        (every slots keys (λ place. some (suc place)) (λ place. taken (suc place)))

-- where a value stands at each, no place is free
pub full_only_if : {T : Type 0} (slots : Slab T) (keys : List (Option ℕ)) (free : List ℕ) (room : ℕ)
    → IsPlaced slots keys free room → All IsSome (map (look slots) keys) → length free ≡ 0
full_only_if slots keys free room sound all = omega (arith, sound.counted, every slots keys all)
  where
    every : {T : Type 0} (slots : Slab T) (keys : List (Option ℕ)) → All IsSome (map (look slots) keys) → keyed keys ≡ length keys
    every slots [] all = refl
    every {T = T} slots (None ∷ keys) all = absurd (nothing {X = T} None refl (all 0 None (omega arith)))
    every slots (Some key ∷ keys) all = omega (arith, every slots keys (λ k d within. all (suc k) d (omega (arith, within))))

-- as many places are free as there are exactly where no value stands at any
pub empty_if : {T : Type 0} (slots : Slab T) (keys : List (Option ℕ)) (free : List ℕ) (room : ℕ)
    → IsPlaced slots keys free room → length free ≡ length keys → All (λ slot. slot ≡ None) (map (look slots) keys)
empty_if slots keys free room sound e = every slots keys (λ place key found. some_keyed keys place key (omega (arith, sound.counted, e)) found)
  where
    every : {T : Type 0} (slots : Slab T) (keys : List (Option ℕ)) → ((place key : ℕ) → key_at keys place ≡ Some key → ⊥)
        → All (λ slot. slot ≡ None) (map (look slots) keys)
    every slots [] none = All-nil (λ slot. slot ≡ None)
    every slots (Some key ∷ keys) none = absurd (none zero key refl)
    every slots (None ∷ keys) none =
        All-cons (λ slot. slot ≡ None) None (map (look slots) keys) refl (every slots keys (λ place. none (suc place)))

pub empty_only_if : {T : Type 0} (slots : Slab T) (keys : List (Option ℕ)) (free : List ℕ) (room : ℕ)
    → IsPlaced slots keys free room → All (λ slot. slot ≡ None) (map (look slots) keys) → length free ≡ length keys
empty_only_if {T} slots keys free room sound empty =
    let none : keyed keys ≡ 0 = none_keyed keys (λ place key found. nothing (get slots key) (sym (read_look slots keys place key found)
    ∙ empty place None (same_size place key found)) (sound.taken place key found)) in
    omega (arith, sound.counted, none)
  where
    same_size : (place key : ℕ) → key_at keys place ≡ Some key → place < length (map (look slots) keys)
    same_size place key found = omega (arith, key_within keys place key found, length-map keys (look slots))

-- as many places are shown as are numbered
pub as_many : {T : Type 0} (slots : Slab T) (keys : List (Option ℕ)) → length (map (look slots) keys) ≡ length keys
as_many slots [] = refl
as_many slots (key ∷ keys) = ap suc (as_many slots keys)
