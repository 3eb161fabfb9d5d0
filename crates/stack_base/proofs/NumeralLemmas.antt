-- What `parse` says of a word of digits.
use Rattle.std.proofs.Common.{◌≡◌, ◌<◌, ◌≤◌, ◌^◌, ℕ, true, List, length, Result, Ok, Err, refl, rules, arith}
use Rattle.std.specs.List.{list_all}
use Rattle.std.specs.Char.{is_ascii_digit}
use Rattle.std.specs.Result.{OkIff, result_ok, MatchResult, IsOk}
use Rattle.std.specs.Str.{IsUtf8}
use Rattle.std.specs.Str.Parse.{digits_value, ParsesUnsigned}
use Rattle.std.proofs.lemmas.Bool.Decides.{nat_tests}
use Rattle.std.proofs.lemmas.Fmt.{IsAscii-from_digits}
use Rattle.std.proofs.lemmas.Str.{IsUtf8-from_ascii}
use Rattle.std.proofs.lemmas.Str.Parse.{IsNumeralModel, IsDigitsTest, numerals_by_value, parse_digits}
use Rattle.stack_base.specs.Numerals.{number_of}

abbrev pub AllAreDigits : List ℕ → Type 0
AllAreDigits word = list_all is_ascii_digit word ≡ true

digits_test : IsDigitsTest AllAreDigits
digits_test = search rules

pub numerals : IsNumeralModel AllAreDigits (digits_value 10)
numerals = numerals_by_value AllAreDigits digits_test

pub digits_are_text : (word : List ℕ) → AllAreDigits word → IsUtf8 word
digits_are_text word digits = IsUtf8-from_ascii word (IsAscii-from_digits word (numerals.to word digits))

is_parsed : {E : Type 0} (word : List ℕ) (r : Result ℕ E) → AllAreDigits word → 0 < length word → length word ≤ 20
    → OkIff r ((0 < length word) × (digits_value 10 word < 2 ^ 64)) (digits_value 10 word) → result_ok r ≡ number_of word
unfolding number_of
is_parsed word (Ok n) digits some few parsed = grind (arith, nat_tests)
is_parsed word (Err e) digits some few parsed = grind (arith, nat_tests)

-- a word of 1 to 20 digits, as `parse` reads it
pub number_is_parsed : {E : Type 0} (word : List ℕ) (r : Result ℕ E) → AllAreDigits word → 0 < length word → length word ≤ 20
    → ParsesUnsigned 64 10 word r → result_ok r ≡ number_of word
number_is_parsed word r digits some few parsed = is_parsed word r digits some few (parse_digits numerals 64 word r parsed digits)

-- what `from_utf8` says of a text
pub text_is_read : {S E : Type 0} (word : List ℕ) (r : Result S E) (P : S → Type 0) (Q : E → Type 0) → IsUtf8 word
    → MatchResult r (λ s. P s × IsUtf8 word) (λ e. ¬ (IsUtf8 word) × Q e) → IsOk r
text_is_read word (Ok s) P Q text read = refl
text_is_read word (Err e) P Q text read = absurd (read.0 text)
