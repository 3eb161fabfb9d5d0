-- A container as its places are numbered: none has a key, and all are free.
use Rattle.std.proofs.Common.{◌≡◌, ℕ, zero, suc, ◌+◌, ◌^◌, ◌<◌, ◌≤◌, List, [], ◌∷◌, ◌++◌, length, map, Option, None, Some, refl, sym, ◌∙◌, ap, arith, inl, inr}
use Rattle.std.specs.Prelude.{slice_get, replicate}
use Rattle.std.proofs.lemmas.Bool.{cases_eq}
use Rattle.slab.specs.Slab.{Slab, slab_len}
use Rattle.bio_books.specs.Kept.{IsPlaced, key_at, keyed, free_count, vacancy, look}
use Rattle.bio_books.proofs.Keys.{times_itself, times_other}

-- a list with one more at its end
pub longer : (free : List ℕ) (place : ℕ) → length (free ++ place ∷ []) ≡ length free + 1
longer [] place = refl
longer (head ∷ free) place = omega (arith, longer free place)

-- so many places are numbered
pub record IsNumbered (keys : List (Option ℕ)) (free : List ℕ) (count : ℕ) : Type 0 where
  pub blank : keys ≡ replicate count None
  pub counted : length free ≡ count
  pub vacant : (place : ℕ) → free_count place free ≡ vacancy (slice_get keys place)

one_more : {X : Type 0} (x : X) (count : ℕ) → replicate count x ++ x ∷ [] ≡ replicate (suc count) x
one_more x zero = refl
one_more x (suc count) = ap (λ xs. x ∷ xs) (one_more x count)

get_last : {X : Type 0} (x : X) (count : ℕ) → slice_get (replicate count x ++ x ∷ []) count ≡ Some x
get_last x zero = refl
get_last x (suc count) = get_last x count

get_before : {X : Type 0} (x : X) (count place : ℕ) → (place ≡ count → ⊥) → slice_get (replicate count x ++ x ∷ []) place ≡ slice_get (replicate count x) place
get_before x zero zero differs = absurd (differs refl)
get_before x zero (suc place) differs = refl
get_before x (suc count) zero differs = refl
get_before x (suc count) (suc place) differs = get_before x count place (λ e. differs (ap suc e))

get_none : {X : Type 0} (x : X) (count : ℕ) → slice_get (replicate count x) count ≡ None
get_none x zero = refl
get_none x (suc count) = get_none x count

pub next_numbered : (keys : List (Option ℕ)) (free : List ℕ) (count : ℕ) → IsNumbered keys free count → IsNumbered (keys ++ None ∷ []) (free ++ count ∷ []) (count + 1)
next_numbered keys free count before = let next : suc count ≡ count + 1 = omega arith in record {
  blank = ap (λ l. l ++ None ∷ []) before.blank ∙ one_more None count ∙ ap (λ n. replicate n None) next;
  counted = longer free count ∙ ap (λ n. n + 1) before.counted;
  vacant = λ place. elim (cases_eq place count) [
    | inl same ↦ ap (λ p. free_count p (free ++ count ∷ [])) same ∙ times_itself free count
        ∙ ap (λ n. n + 1) (before.vacant count ∙ ap (λ l. vacancy (slice_get l count)) before.blank ∙ ap vacancy (get_none None count))
        ∙ sym (ap (λ p. vacancy (slice_get (keys ++ None ∷ []) p)) same ∙ ap (λ l. vacancy (slice_get (l ++ None ∷ []) count)) before.blank
        ∙ ap vacancy (get_last None count))
    | inr differs ↦ times_other free count place differs ∙ before.vacant place ∙ ap (λ l. vacancy (slice_get l place)) before.blank
        ∙ sym (ap (λ l. vacancy (slice_get (l ++ None ∷ []) place)) before.blank ∙ ap vacancy (get_before None count place differs))
  ];
}

no_keys : (count : ℕ) → keyed (replicate count None) ≡ 0
no_keys zero = refl
no_keys (suc count) = no_keys count

no_key : (count place key : ℕ) → key_at (replicate count None) place ≡ Some key → ⊥
no_key zero place key e = absurd (cc)
no_key (suc count) zero key e = absurd (cc)
no_key (suc count) (suc place) key e = no_key count place key e

so_many : {X : Type 0} (x : X) (count : ℕ) → length (replicate count x) ≡ count
so_many x zero = refl
so_many x (suc count) = ap suc (so_many x count)

-- a container of an empty slab, and what it shows
pub numbered : {T : Type 0} (slots : Slab T) (keys : List (Option ℕ)) (free : List ℕ) (room count : ℕ)
    → IsNumbered keys free count → slots.slots ≡ [] → count ≤ slots.capacity → count ≤ room → count < 2 ^ 32 → IsPlaced slots keys free room
numbered slots keys free room count all empty fits fits_free few =
    let none : (place key : ℕ) → key_at keys place ≡ Some key → ⊥ =
    λ place key e. no_key count place key (ap (λ l. key_at l place) (sym all.blank) ∙ e) in
    let size : length keys ≡ count = ap length all.blank ∙ so_many None count in
    let unkeyed : keyed keys ≡ 0 = ap keyed all.blank ∙ no_keys count in
    record {
      slots_room = omega (arith, size, fits);
      free_room = omega (arith, size, fits_free);
      numbers = omega (arith, size, few);
      counted = omega (arith, size, unkeyed, all.counted);
      named = unkeyed ∙ sym (ap (λ l. slab_len (record slots { slots = l })) empty);
      vacant = all.vacant;
      taken = λ place key e. absurd (none place key e);
      distinct = λ place other key e also. absurd (none place key e);
    }

pub shows_none : {T : Type 0} (slots : Slab T) (keys : List (Option ℕ)) (count : ℕ) → keys ≡ replicate count None → map (look slots) keys ≡ replicate count None
shows_none slots keys count e = ap (map (look slots)) e ∙ nothing slots count
  where
    nothing : {T : Type 0} (slots : Slab T) (count : ℕ) → map (look slots) (replicate count None) ≡ replicate count None
    nothing slots zero = refl
    nothing slots (suc count) = ap (λ l. None ∷ l) (nothing slots count)
