-- Numbers that a few digits write.
use Rattle.std.proofs.Common.{◌≡◌, ℕ, zero, suc, ◌+◌, ◌-◌, ◌*◌, ◌^◌, ◌<◌, ◌≤◌, true, List, [], ◌∷◌, length, take, get_or, refl, ap, ◌∙◌, sym, arith, length-take-le, lit≤}
use Rattle.std.specs.List.{list_all}
use Rattle.std.specs.Char.{is_ascii_digit}
use Rattle.std.specs.Str.Parse.{digits_value}
use Rattle.std.proofs.Math.Nat.{pow-le-pow_right}
use Rattle.std.proofs.lemmas.Bool.{and_parts, leb-true}
use Rattle.std.proofs.lemmas.Int.Digits.{digits_value-lt, digits_value_more}
use Rattle.std.proofs.lemmas.Str.{digit_value_digit}
use Rattle.stack_base.proofs.NumeralLemmas.{AllAreDigits, numerals}

front_power : (n : ℕ) → n ≤ 18 → 10 ^ n ≤ 10 ^ 18
front_power n few = pow-le-pow_right (lit≤ tt) few

front_digits : (n : ℕ) (word : List ℕ) → AllAreDigits word → AllAreDigits (take n word)
front_digits zero word all = refl
front_digits (suc n) [] all = refl
front_digits (suc n) (c ∷ cs) all =
    let both = and_parts (is_ascii_digit c) (list_all is_ascii_digit cs) all in
    rw (both.0, front_digits n cs both.1) refl

digit_at : (word : List ℕ) (i : ℕ) → AllAreDigits word → i < length word → is_ascii_digit (get_or word i 0) ≡ true
digit_at [] i all lt = absurd (omega (arith, lt))
digit_at (c ∷ cs) zero all lt = (and_parts (is_ascii_digit c) (list_all is_ascii_digit cs) all).0
digit_at (c ∷ cs) (suc i) all lt = digit_at cs i (and_parts (is_ascii_digit c) (list_all is_ascii_digit cs) all).1 (omega (arith, lt))

-- a digit is one of ten bytes
pub digit_range : (word : List ℕ) (i : ℕ) → AllAreDigits word → i < length word → (48 ≤ get_or word i 0) × (get_or word i 0 ≤ 57)
digit_range word i all lt =
    let (low, high) = and_parts _ _ (digit_at word i all lt) in
    (leb-true 48 (get_or word i 0) low, leb-true (get_or word i 0) 57 high)

-- a digit more
pub number_more : (word : List ℕ) (i : ℕ) → AllAreDigits word → i < length word
    → digits_value 10 (take (i + 1) word) ≡ 10 * digits_value 10 (take i word) + (get_or word i 0 - 48)
number_more word i all lt =
    omega (arith, digits_value_more 10 word i lt, digit_value_digit (get_or word i 0) (digit_range word i all lt))

pub front_small : (word : List ℕ) (i : ℕ) → AllAreDigits word → i < length word → length word ≤ 19 → digits_value 10 (take i word) < 10 ^ 18
front_small word i all lt few =
    let long : length (take i word) ≡ i = length-take-le i word (omega (arith, lt)) in
    omega (arith, digits_value-lt 10 (take i word) (numerals.to (take i word) (front_digits i word all)), ap (λ n. 10 ^ n) long, front_power i (omega (arith, lt, few)))
