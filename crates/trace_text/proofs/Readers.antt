-- Readers that read just what a text function writes, and how they are put together.
use Rattle.std.proofs.Common.{◌≡◌, ℕ, List, [], ◌∷◌, ◌++◌, Option, Some, None, refl, ap, sym, ◌∙◌, subst, append_assoc}
use Rattle.std.specs.Option.{option_and_then, option_map}
use Rattle.std.proofs.lemmas.Option.{some_pair_parts}
use Rattle.trace_text.specs.Reading.{Reader, field, read_both, made}

-- a word reader that reads just the word of what is as it has to be
pub record IsWord {A : Type 0} (text : A → List ℕ) (Is : A → Type 0) (read : List ℕ → Option A) : Type 0 where
  pub again : (a : A) → Is a → read (text a) ≡ Some a
  pub takes : (word : List ℕ) (a : A) → read word ≡ Some a → Is a × (word ≡ text a)

-- the same of words at the front
pub record IsReader {A : Type 0} (text : A → List (List ℕ)) (Is : A → Type 0) (read : Reader A) : Type 0 where
  pub again : (a : A) (rest : List (List ℕ)) → Is a → read (text a ++ rest) ≡ Some (a, rest)
  pub takes : (words : List (List ℕ)) (a : A) (rest : List (List ℕ)) → read words ≡ Some (a, rest) → Is a × (words ≡ text a ++ rest)

field_some : {A : Type 0} (o : Option A) (words : List (List ℕ)) (a : A) (rest : List (List ℕ))
    → option_map {U = A × List (List ℕ)} (λ found. (found, words)) o ≡ Some (a, rest) → (o ≡ Some a) × (words ≡ rest)
field_some None words a rest e = absurd (cc)
field_some (Some found) words a rest e = let parts = some_pair_parts found a words rest e in (ap Some parts.0, parts.1)

field_takes : {A : Type 0} (text : A → List ℕ) (Is : A → Type 0) (read : List ℕ → Option A) → IsWord text Is read
    → (words : List (List ℕ)) (a : A) (rest : List (List ℕ)) → field read words ≡ Some (a, rest) → Is a × (words ≡ text a ∷ rest)
field_takes text Is read w [] a rest e = absurd (cc)
field_takes text Is read w (word ∷ words) a rest e =
    let f = field_some (read word) words a rest e in
    let t = w.takes word a f.0 in
    (t.0, cc)

pub of_word : {A : Type 0} {text : A → List ℕ} {Is : A → Type 0} {read : List ℕ → Option A} → IsWord text Is read
    → IsReader (λ a. text a ∷ []) Is (field read)
of_word {A} {text} {Is} {read} w = record {
  again = λ a rest is. ap (option_map (λ found. (found, rest))) (w.again a is);
  takes = field_takes text Is read w;
}

pair : {A B : Type 0} {a x : A} {b y : B} → a ≡ x → b ≡ y → ◌≡◌ {A = A × B} (a, b) (x, y)
pair first second = λ k. (first k, second k)

from_second : {A B : Type 0} (second : Reader B) (one : A × List (List ℕ)) (p : Option (B × List (List ℕ))) (a : A) (b : B) (rest : List (List ℕ))
    → second one.1 ≡ p → option_map {U = (A × B) × List (List ℕ)} (λ other. ((one.0, other.0), other.1)) p ≡ Some ((a, b), rest)
    → (mid : List (List ℕ)) × (Some one ≡ Some (a, mid)) × (second mid ≡ Some (b, rest))
from_second {A} {B} second one None a b rest is e = absurd (cc)
from_second {A} {B} second one (Some other) a b rest is e =
    let parts = some_pair_parts (one.0, other.0) (a, b) other.1 rest e in
    (one.1, ap (λ (x : A × B). Some (x.0, one.1)) parts.0, is ∙ ap Some (pair (ap (λ (x : A × B). x.1) parts.0) parts.1))

both_some : {A B : Type 0} (second : Reader B) (o : Option (A × List (List ℕ))) (a : A) (b : B) (rest : List (List ℕ))
    → option_and_then {U = (A × B) × List (List ℕ)} (λ one. option_map (λ other. ((one.0, other.0), other.1)) (second one.1)) o ≡ Some ((a, b), rest)
    → (mid : List (List ℕ)) × (o ≡ Some (a, mid)) × (second mid ≡ Some (b, rest))
both_some second None a b rest e = absurd (cc)
both_some second (Some one) a b rest e = from_second second one (second one.1) a b rest refl e

both_again : {A B : Type 0} (first : Reader A) (second : Reader B) (a : A) (b : B) (words mid rest : List (List ℕ))
    → first words ≡ Some (a, mid) → second mid ≡ Some (b, rest) → read_both first second words ≡ Some ((a, b), rest)
unfolding read_both
both_again first second a b words mid rest one other = rw (one, other) refl

both_takes : {A B : Type 0} (first : Reader A) (second : Reader B) (words : List (List ℕ)) (a : A) (b : B) (rest : List (List ℕ))
    → read_both first second words ≡ Some ((a, b), rest) → (mid : List (List ℕ)) × (first words ≡ Some (a, mid)) × (second mid ≡ Some (b, rest))
unfolding read_both
both_takes first second words a b rest e = both_some second (first words) a b rest e

-- one reader behind the other
pub then : {A B : Type 0} {ta : A → List (List ℕ)} {tb : B → List (List ℕ)} {IsA : A → Type 0} {IsB : B → Type 0} {first : Reader A} {second : Reader B}
    → IsReader ta IsA first → IsReader tb IsB second → IsReader (λ (p : A × B). ta p.0 ++ tb p.1) (λ (p : A × B). IsA p.0 × IsB p.1) (read_both first second)
then {A} {B} {ta} {tb} {IsA} {IsB} {first} {second} r s = record {
  again = λ p rest is.
      both_again first second p.0 p.1 ((ta p.0 ++ tb p.1) ++ rest) (tb p.1 ++ rest) rest
      (ap first (append_assoc (ta p.0) (tb p.1) rest) ∙ r.again p.0 (tb p.1 ++ rest) is.0) (s.again p.1 rest is.1);
  takes = λ words p rest e.
      let t = both_takes first second words p.0 p.1 rest e in
      let one = r.takes words p.0 t.0 t.1 in
      let other = s.takes t.0 p.1 rest t.2 in
      ((one.0, other.0), one.1 ∙ ap (λ x. ta p.0 ++ x) other.1 ∙ sym (append_assoc (ta p.0) (tb p.1) rest));
}

made_some : {A B : Type 0} (make : A → B) (o : Option (A × List (List ℕ))) (b : B) (rest : List (List ℕ))
    → option_map {U = B × List (List ℕ)} (λ found. (make found.0, found.1)) o ≡ Some (b, rest) → (a : A) × (o ≡ Some (a, rest)) × (make a ≡ b)
made_some make None b rest e = absurd (cc)
made_some make (Some found) b rest e =
    let parts = some_pair_parts (make found.0) b found.1 rest e in
    (found.0, ap Some (pair refl parts.1), parts.0)

-- what is made of what a reader reads
pub made_takes : {A B : Type 0} {text : A → List (List ℕ)} {Is : A → Type 0} {read : Reader A} → IsReader text Is read
    → (make : A → B) (words : List (List ℕ)) (b : B) (rest : List (List ℕ)) (Q : B → Type 0)
    → ((a : A) → Is a → words ≡ text a ++ rest → Q (make a)) → made make read words ≡ Some (b, rest) → Q b
unfolding made
made_takes {A} {B} {text} {Is} {read} r make words b rest Q from e =
    let m = made_some make (read words) b rest e in
    let t = r.takes words m.0 rest m.1 in
    subst Q m.2 (from m.0 t.0 t.1)

pub made_again : {A B : Type 0} {text : A → List (List ℕ)} {Is : A → Type 0} {read : Reader A} → IsReader text Is read
    → (make : A → B) (a : A) (rest : List (List ℕ)) → Is a → made make read (text a ++ rest) ≡ Some (make a, rest)
unfolding made
made_again r make a rest is = ap (option_map (λ found. (make found.0, found.1))) (r.again a rest is)
