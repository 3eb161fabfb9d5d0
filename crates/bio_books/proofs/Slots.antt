-- What stands at the places, as one of them changes.
use Rattle.std.proofs.Common.{◌≡◌, ℕ, zero, suc, ◌<◌, List, [], ◌∷◌, length, map, Option, None, Some, refl, sym, ◌∙◌, ap, subst, arith}
use Rattle.std.specs.Prelude.{slice_get, slice_set, slice_index_or, MatchOption}
use Rattle.slab.specs.Slab.{Slab, get}
use Rattle.bio_books.specs.Kept.{key_at, look}

pub same_look : {T : Type 0} (old new : Slab T) (slot : Option ℕ) → ((key : ℕ) → slot ≡ Some key → get new key ≡ get old key) → look new slot ≡ look old slot
same_look old new None same = refl
same_look old new (Some key) same = same key refl

-- where the slabs agree at each key, the places show the same
pub same_looks : {T : Type 0} (old new : Slab T) (keys : List (Option ℕ))
    → ((place key : ℕ) → key_at keys place ≡ Some key → get new key ≡ get old key) → map (look new) keys ≡ map (look old) keys
same_looks old new [] same = refl
same_looks old new (slot ∷ keys) same =
    ap (λ shown. shown ∷ map (look new) keys) (same_look old new slot (same zero))
    ∙ ap (λ rest. look old slot ∷ rest) (same_looks old new keys (λ place. same (suc place)))

-- where they agree at the keys of all places but one, the places show the same but there
pub shown : {T : Type 0} (old new : Slab T) (keys : List (Option ℕ)) (place : ℕ) (slot : Option ℕ) (value : Option T)
    → place < length keys → look new slot ≡ value
    → ((other key : ℕ) → (other ≡ place → ⊥) → key_at keys other ≡ Some key → get new key ≡ get old key)
    → map (look new) (slice_set keys place slot) ≡ slice_set (map (look old) keys) place value
shown old new [] place slot value within here same = absurd (omega arith)
shown old new (head ∷ keys) zero slot value within here same =
    ap (λ x. x ∷ map (look new) keys) here
    ∙ ap (λ rest. value ∷ rest) (same_looks old new keys (λ other key. same (suc other) key (λ e. absurd (omega (arith, e)))))
shown old new (head ∷ keys) (suc place) slot value within here same =
    ap (λ x. x ∷ map (look new) (slice_set keys place slot)) (same_look old new head (λ key. same zero key (λ e. absurd (omega (arith, e)))))
    ∙ ap (λ rest. look old head ∷ rest)
    (shown old new keys place slot value (omega arith) here (λ other key differs. same (suc other) key (λ e. differs (omega (arith, e)))))

-- the same, where the key stays
pub altered : {T : Type 0} (old new : Slab T) (keys : List (Option ℕ)) (place key : ℕ) (value : T)
    → key_at keys place ≡ Some key → get new key ≡ Some value
    → ((other key : ℕ) → (other ≡ place → ⊥) → key_at keys other ≡ Some key → get new key ≡ get old key)
    → map (look new) keys ≡ slice_set (map (look old) keys) place (Some value)
altered old new [] place key value found here same = absurd (cc)
altered old new (head ∷ keys) zero key value found here same =
    ap (λ slot. look new slot ∷ map (look new) keys) found ∙ ap (λ x. x ∷ map (look new) keys) here
    ∙ ap (λ rest. Some value ∷ rest) (same_looks old new keys (λ other key. same (suc other) key (λ e. absurd (omega (arith, e)))))
altered old new (head ∷ keys) (suc place) key value found here same =
    ap (λ x. x ∷ map (look new) keys) (same_look old new head (λ key. same zero key (λ e. absurd (omega (arith, e)))))
    ∙ ap (λ rest. look old head ∷ rest)
    (altered old new keys place key value found here (λ other key differs. same (suc other) key (λ e. differs (omega (arith, e)))))

-- what is read at a place is what the slab has at its key
pub read_look : {T : Type 0} (slots : Slab T) (keys : List (Option ℕ)) (place key : ℕ)
    → key_at keys place ≡ Some key → slice_index_or (map (look slots) keys) place None ≡ get slots key
read_look slots [] place key e = absurd (cc)
read_look slots (head ∷ keys) zero key e = ap (look slots) e
read_look slots (head ∷ keys) (suc place) key e = read_look slots keys place key e

-- a place with no key shows nothing
pub read_vacant : {T : Type 0} (slots : Slab T) (keys : List (Option ℕ)) (place : ℕ)
    → slice_get keys place ≡ Some None → slice_get (map (look slots) keys) place ≡ Some None
read_vacant slots [] place e = absurd (cc)
read_vacant slots (None ∷ keys) zero e = refl
read_vacant slots (Some key ∷ keys) zero e = absurd (cc)
read_vacant slots (head ∷ keys) (suc place) e = read_vacant slots keys place e

-- what a change says, where the place has a value
pub matched : {T : Type 0} (there : Option T) (value : T) (after : T → T) (old new : List (Option T)) (place : ℕ)
    → there ≡ Some value → new ≡ slice_set old place (Some (after value))
    → MatchOption there (new ≡ old) (λ v. new ≡ slice_set old place (Some (after v)))
matched there value after old new place e step =
    subst (λ o. MatchOption o (new ≡ old) (λ v. new ≡ slice_set old place (Some (after v)))) (sym e) step
