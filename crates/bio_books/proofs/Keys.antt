-- The keys beside the numbers of places, and the free places, as one place changes.
use Rattle.std.proofs.Common.{◌≡◌, ℕ, zero, suc, ◌+◌, ◌<◌, ◌≤◌, List, [], ◌∷◌, ◌++◌, length, Option, None, Some, refl, sym, ◌∙◌, ap, arith}
use Rattle.std.specs.Prelude.{slice_get, slice_set, eqb}
use Rattle.std.proofs.lemmas.Bool.{eq-eqb, ne_eqb}
use Rattle.bio_books.specs.Kept.{key_at, keyed, one_if, free_count, vacancy}

-- a list as it is read at a place that was written, and at others
pub get_written : {X : Type 0} (xs : List X) (place : ℕ) (x : X) → place < length xs → slice_get (slice_set xs place x) place ≡ Some x
get_written [] place x within = absurd (omega arith)
get_written (head ∷ xs) zero x within = refl
get_written (head ∷ xs) (suc place) x within = get_written xs place x (omega arith)

pub get_other : {X : Type 0} (xs : List X) (place other : ℕ) (x : X) → (other ≡ place → ⊥) → slice_get (slice_set xs place x) other ≡ slice_get xs other
get_other [] place other x differs = refl
get_other (head ∷ xs) zero zero x differs = absurd (differs refl)
get_other (head ∷ xs) zero (suc other) x differs = refl
get_other (head ∷ xs) (suc place) zero x differs = refl
get_other (head ∷ xs) (suc place) (suc other) x differs = get_other xs place other x (λ e. differs (ap suc e))

-- a key is beside a number exactly where it is read there
pub key_read : (keys : List (Option ℕ)) (place key : ℕ) → key_at keys place ≡ Some key → slice_get keys place ≡ Some (Some key)
key_read [] place key e = absurd (cc)
key_read (head ∷ keys) zero key e = ap Some e
key_read (head ∷ keys) (suc place) key e = key_read keys place key e

pub key_within : (keys : List (Option ℕ)) (place key : ℕ) → key_at keys place ≡ Some key → place < length keys
key_within [] place key e = absurd (cc)
key_within (head ∷ keys) zero key e = omega arith
key_within (head ∷ keys) (suc place) key e = omega (arith, key_within keys place key e)

pub read_within : {X : Type 0} (xs : List X) (place : ℕ) (x : X) → slice_get xs place ≡ Some x → place < length xs
read_within [] place x e = absurd (cc)
read_within (head ∷ xs) zero x e = omega arith
read_within (head ∷ xs) (suc place) x e = omega (arith, read_within xs place x e)

-- one place more has a key, and one less
pub keyed_more : (keys : List (Option ℕ)) (place key : ℕ) → slice_get keys place ≡ Some None → keyed (slice_set keys place (Some key)) ≡ keyed keys + 1
keyed_more [] place key e = absurd (cc)
keyed_more (None ∷ keys) zero key e = refl
keyed_more (Some head ∷ keys) zero key e = absurd (cc)
keyed_more (None ∷ keys) (suc place) key e = keyed_more keys place key e
keyed_more (Some head ∷ keys) (suc place) key e = ap (λ n. n + 1) (keyed_more keys place key e)

pub keyed_less : (keys : List (Option ℕ)) (place key : ℕ) → key_at keys place ≡ Some key → keyed (slice_set keys place None) + 1 ≡ keyed keys
keyed_less [] place key e = absurd (cc)
keyed_less (None ∷ keys) zero key e = absurd (cc)
keyed_less (Some head ∷ keys) zero key e = refl
keyed_less (None ∷ keys) (suc place) key e = keyed_less keys place key e
keyed_less (Some head ∷ keys) (suc place) key e = ap (λ n. n + 1) (keyed_less keys place key e)

-- all places have a key where as many have one as there are, and none where none has
pub all_keyed : (keys : List (Option ℕ)) (place : ℕ) → length keys ≤ keyed keys → slice_get keys place ≡ Some None → ⊥
all_keyed keys place all e = omega (arith, keyed_more keys place 0 e, keyed-le (slice_set keys place (Some 0)), same_length keys place (Some 0))
  where
    keyed-le : (keys : List (Option ℕ)) → keyed keys ≤ length keys
    keyed-le [] = omega arith
    keyed-le (None ∷ keys) = omega (arith, keyed-le keys)
    keyed-le (Some key ∷ keys) = omega (arith, keyed-le keys)

    same_length : (keys : List (Option ℕ)) (place : ℕ) (slot : Option ℕ) → length (slice_set keys place slot) ≡ length keys
    same_length [] place slot = refl
    same_length (head ∷ keys) zero slot = refl
    same_length (head ∷ keys) (suc place) slot = ap suc (same_length keys place slot)

pub some_keyed : (keys : List (Option ℕ)) (place key : ℕ) → keyed keys ≡ 0 → key_at keys place ≡ Some key → ⊥
some_keyed keys place key none e = omega (arith, keyed_less keys place key e)

pub none_keyed : (keys : List (Option ℕ)) → ((place key : ℕ) → key_at keys place ≡ Some key → ⊥) → keyed keys ≡ 0
none_keyed [] none = refl
none_keyed (None ∷ keys) none = none_keyed keys (λ place key e. none (suc place) key e)
none_keyed (Some key ∷ keys) none = absurd (none zero key refl)

-- how often a place is free, with one more
pub times_more : (free : List ℕ) (last place : ℕ) → free_count place (free ++ last ∷ []) ≡ free_count place free + one_if (eqb last place)
times_more [] last place = omega arith
times_more (head ∷ free) last place = omega (arith, times_more free last place)

pub times_itself : (free : List ℕ) (place : ℕ) → free_count place (free ++ place ∷ []) ≡ free_count place free + 1
times_itself free place = times_more free place place ∙ ap (λ b. free_count place free + one_if b) (eq-eqb place place refl)

pub times_other : (free : List ℕ) (last place : ℕ) → (place ≡ last → ⊥) → free_count place (free ++ last ∷ []) ≡ free_count place free
times_other free last place differs =
    times_more free last place ∙ ap (λ b. free_count place free + one_if b) (ne_eqb last place (λ e. differs (sym e))) ∙ omega arith

-- a place that is free once at least has no key, and is free once
pub free_once : (slot : Option (Option ℕ)) (before : ℕ) → before + 1 ≡ vacancy slot → (slot ≡ Some None) × (before ≡ 0)
free_once None before e = absurd (omega arith)
free_once (Some None) before e = (refl, omega arith)
free_once (Some (Some key)) before e = absurd (omega arith)
