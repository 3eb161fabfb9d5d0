-- What is found under the keys of a row of which no two are the same.
use Rattle.std.proofs.Common.{◌≡◌, ◌≢◌, ◌+◌, ◌<◌, if◌then◌else◌, cond, ℕ, zero, suc, Bool, true, false, List, [], ◌∷◌, map, filter, find, Some, refl, sym, ap, ◌∙◌, arith}
use Rattle.std.specs.Prelude.{All}
use Rattle.std.specs.List.{range_with_len}
use Rattle.std.specs.Option.{option_map_or}
use Rattle.std.proofs.lemmas.Bool.{true≢false, eq-eqb, ne_eqb}
use Rattle.std.proofs.lemmas.List.Elements.{All-nil, All-cons, All-head, All-tail}
use Rattle.stack_base.proofs.ListLemmas.{first_or, behind_first}
use Rattle.task_core.specs.Tables.{is_entry_of, look_up}
use Rattle.run_merge.proofs.Fronts.{has_some}

abbrev pub AreDistinct : List ℕ → Type 0
AreDistinct [] = Unit {0}
AreDistinct (n ∷ ns) = All (λ m. n ≢ m) ns × AreDistinct ns

module _ {E X : Type 0} (key : E → ℕ) (value : E → X) (none : ℕ → X) where
  abbrev look : List E → ℕ → X
  look entries = look_up key value none entries

  pub found_first : (entry : E) (entries : List E) (n : ℕ) → key entry ≡ n → look (entry ∷ entries) n ≡ value entry
  found_first entry entries n is =
      ap (λ b. option_map_or value (if b then Some entry else find (is_entry_of key n) entries) (none n)) (eq-eqb (key entry) n is)

  found_later : (entry : E) (entries : List E) (n : ℕ) → key entry ≢ n → look (entry ∷ entries) n ≡ look entries n
  found_later entry entries n apart =
      ap (λ b. option_map_or value (if b then Some entry else find (is_entry_of key n) entries) (none n)) (ne_eqb (key entry) n apart)

  all_later : (entry : E) (entries : List E) (ns : List ℕ) → All (λ n. key entry ≢ n) ns → map (look (entry ∷ entries)) ns ≡ map (look entries) ns
  all_later entry entries [] apart = refl
  all_later entry entries (n ∷ ns) apart =
      let here = found_later entry entries n (All-head (λ n. key entry ≢ n) n ns apart) in
      let rest = all_later entry entries ns (All-tail (λ n. key entry ≢ n) n ns apart) in
      λ i. here i ∷ rest i

  -- each entry is found under its key
  pub looked : (entries : List E) → AreDistinct (map key entries) → map value entries ≡ map (look entries) (map key entries)
  looked [] apart = refl
  looked (entry ∷ entries) apart =
      let here = sym (found_first entry entries (key entry) refl) in
      let rest = looked entries apart.1 ∙ sym (all_later entry entries (map key entries) apart.0) in
      λ i. here i ∷ rest i

-- numbers that rise are apart
module _ (number : ℕ → ℕ) (apart : (m n : ℕ) → m < n → number m ≢ number n) (is : ℕ → Bool) where
  above : (n m count : ℕ) → n < m → All (λ k. number n ≢ k) (map number (filter is (range_with_len m count)))
  above n m zero lt = All-nil (λ k. number n ≢ k)
  above n m (suc count) lt = by_test (is m) (above n (m + 1) count (omega (arith, lt)))
    where
      rest : List ℕ
      rest = filter is (range_with_len (m + 1) count)

      by_test : (b : Bool) → All (λ k. number n ≢ k) (map number rest) → All (λ k. number n ≢ k) (map number (cond b (m ∷ rest) rest))
      by_test true all = All-cons (λ k. number n ≢ k) (number m) (map number rest) (apart n m lt) all
      by_test false all = all

  pub numbers_apart : (n count : ℕ) → AreDistinct (map number (filter is (range_with_len n count)))
  numbers_apart n zero = tt
  numbers_apart n (suc count) = by_test (is n) (numbers_apart (n + 1) count) (above n (n + 1) count (omega arith))
    where
      rest : List ℕ
      rest = filter is (range_with_len (n + 1) count)

      by_test : (b : Bool) → AreDistinct (map number rest) → All (λ k. number n ≢ k) (map number rest) → AreDistinct (map number (cond b (n ∷ rest) rest))
      by_test true all here = (here, all)
      by_test false all here = all

-- entries with names that go by their keys
module _ {E K X : Type 0} (key : E → ℕ) (own : E → K) (value : E → X) (number : ℕ → ℕ) (name : ℕ → K) (f : ℕ → X)
    (named : (e : E) (n : ℕ) → key e ≡ number n → own e ≡ name n) where
  pub pairs : (entries : List E) (ns : List ℕ) → map key entries ≡ map number ns → map value entries ≡ map f ns
      → map {B = K × X} (λ e. (own e, value e)) entries ≡ map {B = K × X} (λ n. (name n, f n)) ns
  pairs [] [] keys values = refl
  pairs [] (n ∷ ns) keys values = absurd (true≢false (sym (ap has_some keys)))
  pairs (e ∷ es) [] keys values = absurd (true≢false (ap has_some keys))
  pairs (e ∷ es) (n ∷ ns) keys values =
      let key_is : key e ≡ number n = ap (first_or (number n)) keys in
      let here = named e n key_is in
      let is : value e ≡ f n = ap (first_or (f n)) values in
      let rest = pairs es ns (ap behind_first keys) (ap behind_first values) in
      λ i. (here i, is i) ∷ rest i

pub map_alike : {A B : Type 0} (f g : A → B) (xs : List A) → All (λ x. f x ≡ g x) xs → map f xs ≡ map g xs
map_alike f g [] all = refl
map_alike f g (x ∷ xs) all =
    let here = All-head (λ x. f x ≡ g x) x xs all in
    let rest = map_alike f g xs (All-tail (λ x. f x ≡ g x) x xs all) in
    λ i. here i ∷ rest i
