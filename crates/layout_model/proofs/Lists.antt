-- Lists that are joined: what they contain, and what holds of any two of their elements.
use Rattle.std.proofs.Common.{◌≡◌, ℕ, zero, suc, ◌+◌, ◌-◌, ◌<◌, ◌≤◌, List, [], ◌∷◌, ◌++◌, length, refl, sym, subst, inl, inr, arith}
use Rattle.std.specs.Prelude.{Contains}
use Rattle.std.specs.List.{flat_map, range_with_len, AllPairs}
use Rattle.std.proofs.lemmas.Bool.{cases_lt}
use Rattle.std.proofs.lemmas.List.{length-append, get_or_append_left, get_or-append_right}
use Rattle.std.proofs.lemmas.List.Elements.{Contains-get_or, Contains-append_left, Contains-append_right, Contains-append_cases}

-- a list of one element contains that element alone
pub contains_one : {X : Type 0} (x y : X) → Contains (x ∷ []) y → y ≡ x
contains_one x y (zero, within, is) = sym is
contains_one x y (suc k, within, is) = absurd (omega arith)

-- an element of the joined lists, one for each of n numbers from a on, is in one of them
pub contains_some : {X : Type 0} (lists : ℕ → List X) (a n : ℕ) (x : X) → Contains (flat_map lists (range_with_len a n)) x
    → (k : ℕ) × (a ≤ k) × (k < a + n) × Contains (lists k) x
contains_some lists a zero x (k, within, is) = absurd (omega arith)
contains_some lists a (suc n) x c =
    elim (Contains-append_cases (lists a) (flat_map lists (range_with_len (a + 1) n)) x c) [
      | inl now ↦ (a, omega arith, omega arith, now)
      | inr later ↦
          let rest = contains_some lists (a + 1) n x later in
          (rest.0, omega (arith, rest.1), omega (arith, rest.2), rest.3)
    ]

-- an element of one of them is in the joined list
pub contains_each : {X : Type 0} (lists : ℕ → List X) (a n k : ℕ) (x : X) → a ≤ k → k < a + n → Contains (lists k) x → Contains (flat_map lists (range_with_len a n)) x
contains_each lists a zero k x from before c = absurd (omega arith)
contains_each lists a (suc n) k x from before c = elim (cases_lt a k) [
  | inl later ↦ Contains-append_right (lists a) (flat_map lists (range_with_len (a + 1) n)) x (contains_each lists (a + 1) n k x (omega arith) (omega arith) c)
  | inr now ↦ Contains-append_left (lists a) (flat_map lists (range_with_len (a + 1) n)) x (subst (λ i. Contains (lists i) x) (omega arith) c)
]

module _ {X : Type 0} (R : X → X → Type 0) where
  -- what holds of any two of each list, and of one of the first and one of the second, holds of any two when they are joined
  pub all_pairs_append : (xs ys : List X) → AllPairs R xs → AllPairs R ys → ((x y : X) → Contains xs x → Contains ys y → R x y) → AllPairs R (xs ++ ys)
  all_pairs_append xs ys left right across i j d lt within =
      let long : j < length xs + length ys = omega (arith, length-append xs ys) in
      elim (cases_lt j (length xs)) [
        | inl both ↦ rw (get_or_append_left xs ys d i (omega arith), get_or_append_left xs ys d j both) (left i j d lt both)
        | inr behind ↦ rw (get_or-append_right xs ys (length xs) j d refl behind) (elim (cases_lt i (length xs)) [
          | inl before ↦ rw (get_or_append_left xs ys d i before)
              (across _ _ (Contains-get_or xs i d before) (Contains-get_or ys (j - length xs) d (omega arith)))
          | inr neither ↦ rw (get_or-append_right xs ys (length xs) i d refl neither)
              (right (i - length xs) (j - length xs) d (omega arith) (omega arith))
        ])
      ]

  -- the same of lists for n numbers from a on
  pub all_pairs_flat : (lists : ℕ → List X) (a n : ℕ) → ((k : ℕ) → AllPairs R (lists k))
      → ((j k : ℕ) (x y : X) → j < k → k < a + n → Contains (lists j) x → Contains (lists k) y → R x y)
      → AllPairs R (flat_map lists (range_with_len a n))
  all_pairs_flat lists a zero each across = λ i j d lt within. absurd (omega arith)
  all_pairs_flat lists a (suc n) each across =
      all_pairs_append (lists a) (flat_map lists (range_with_len (a + 1) n)) (each a)
      (all_pairs_flat lists (a + 1) n each (λ j k x y lt before. across j k x y lt (omega arith)))
      (λ x y here there.
      let later = contains_some lists (a + 1) n y there in
      across a later.0 x y (omega (arith, later.1)) (omega (arith, later.2)) here later.3)
