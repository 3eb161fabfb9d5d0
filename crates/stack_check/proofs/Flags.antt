-- Flags of numbers: whether each is in a list.
use Rattle.std.proofs.Common.{◌≡◌, ◌≤◌, ℕ, ◌+◌, ◌==◌, ◌||◌, ◌<◌, Bool, true, false, List, [], ◌∷◌, length, get_or, set, map, drop, refl, ap, ◌∙◌, sym, inl, inr}
use Rattle.std.specs.List.{list_any}
use Rattle.std.proofs.lemmas.Bool.{cases_eq, eq-eqb, ne_eqb}
use Rattle.std.proofs.lemmas.List.{get_or-set_same, get_or-set_other, at_drop_more, at_drop_all}
use Rattle.stack_base.proofs.ListLemmas.{any_or, list_any_same}
use Rattle.stack_base.proofs.NumberLemmas.{eqb_flips}
use Rattle.decl_text.specs.Checks.{is_among, repeats}

-- the flag of a number
abbrev pub flag : List Bool → ℕ → Bool
flag flags n = get_or flags n false

-- one more flag is set
pub flag_set : (flags : List Bool) (n m : ℕ) → n < length flags → flag (set flags n true) m ≡ (n == m || flag flags m)
flag_set flags n m within = elim (cases_eq n m) [
  | inl same ↦
      ap (flag (set flags n true)) (sym same) ∙ get_or-set_same flags n true false within
      ∙ sym (ap (λ b. b || flag flags m) (eq-eqb n m same))
  | inr other ↦
      get_or-set_other flags n m true false (λ is. other (sym is)) ∙ sym (ap (λ b. b || flag flags m) (ne_eqb n m other))
]

or_swap : (a b r c d : Bool) → r ≡ (c || d) → ((a || b) || r) ≡ ((a || c) || (b || d))
or_swap true b r c d is = refl
or_swap false true r true d is = refl
or_swap false true r false d is = refl
or_swap false false r c d is = is

or_turned : (a b r s : Bool) → s ≡ (b || a) → (a || (b || r)) ≡ (s || r)
or_turned true true r s is = ap (λ x. x || r) (sym is)
or_turned true false r s is = ap (λ x. x || r) (sym is)
or_turned false true r s is = ap (λ x. x || r) (sym is)
or_turned false false r s is = ap (λ x. x || r) (sym is)

-- numbers of which one has a flag, or stands twice
abbrev pub clash : List Bool → List ℕ → Bool
clash flags numbers = list_any (flag flags) numbers || repeats numbers

-- a number without a flag does not clash, if its flag is set for those behind it
pub clash_step : (flags : List Bool) (n : ℕ) (rest : List ℕ) → n < length flags → flag flags n ≡ false → clash flags (n ∷ rest) ≡ clash (set flags n true) rest
clash_step flags n rest within free =
    let split : list_any (flag (set flags n true)) rest ≡ (list_any (λ m. n == m) rest || list_any (flag flags) rest) =
    list_any_same (flag (set flags n true)) (λ m. n == m || flag flags m) rest (λ m. flag_set flags n m within) ∙ any_or (λ m. n == m) (flag flags) rest in
    let turned : list_any (λ m. n == m) rest ≡ is_among rest n = list_any_same (λ m. n == m) (λ m. m == n) rest (λ m. eqb_flips n m) in
    ap (λ b. (b || list_any (flag flags) rest) || repeats (n ∷ rest)) free
    ∙ or_turned (list_any (flag flags) rest) (is_among rest n) (repeats rest) (list_any (flag (set flags n true)) rest)
    (split ∙ ap (λ b. b || list_any (flag flags) rest) turned)

-- a number with a flag clashes
pub clash_here : (flags : List Bool) (n : ℕ) (rest : List ℕ) → flag flags n ≡ true → clash flags (n ∷ rest) ≡ true
clash_here flags n rest taken = ap (λ b. (b || list_any (flag flags) rest) || repeats (n ∷ rest)) taken

-- what holds of each of some names is settled by tests that agree where they are looked at
pub any_agree_map : {X Y : Type 0} (f : X → Y) (p q : Y → Bool) (xs : List X) → ((x : X) → p (f x) ≡ q (f x)) → list_any p (map f xs) ≡ list_any q (map f xs)
any_agree_map f p q [] same = refl
any_agree_map f p q (x ∷ xs) same =
    let first = same x in
    let rest = any_agree_map f p q xs same in
    cc

module _ {X : Type 0} (f : X → ℕ) (xs : List X) (flags : List Bool) where
  -- the number of the element at a place, in a walk over all of them
  pub clash_more :
      (i n : ℕ) (x : X) → i < length xs → x ≡ get_or xs i x → n ≡ f x → n < length flags → flag flags n ≡ false
      → clash (set flags n true) (map f (drop (i + 1) xs)) ≡ clash flags (map f (drop i xs))
  clash_more i n x lt at is within free =
      sym (
      at_drop_more (λ ys. clash flags (map f ys)) xs i x lt
      ∙ ap (λ y. clash flags (f y ∷ map f (drop (i + 1) xs))) (sym at)
      ∙ ap (λ m. clash flags (m ∷ map f (drop (i + 1) xs))) (sym is)
      ∙ clash_step flags n (map f (drop (i + 1) xs)) within free
      )

  pub clash_found : (i n : ℕ) (x : X) → i < length xs → x ≡ get_or xs i x → n ≡ f x → flag flags n ≡ true → clash flags (map f (drop i xs)) ≡ true
  clash_found i n x lt at is taken =
      at_drop_more (λ ys. clash flags (map f ys)) xs i x lt
      ∙ ap (λ y. clash flags (f y ∷ map f (drop (i + 1) xs))) (sym at)
      ∙ ap (λ m. clash flags (m ∷ map f (drop (i + 1) xs))) (sym is)
      ∙ clash_here flags n (map f (drop (i + 1) xs)) taken

  pub clash_none : (i : ℕ) → length xs ≤ i → clash flags (map f (drop i xs)) ≡ false
  clash_none i le = at_drop_all (λ ys. clash flags (map f ys)) xs i le
