-- What `parse` says of plain digits, and what they write.
use Rattle.std.proofs.Common.{◌≡◌, ◌<◌, ◌^◌, ℕ, true, List, length, Result, Ok, Err, arith}
use Rattle.std.specs.Result.{OkIff, result_ok}
use Rattle.std.specs.Str.Parse.{digits_value, ParsesUnsigned}
use Rattle.std.proofs.lemmas.Bool.Decides.{nat_tests}
use Rattle.std.proofs.lemmas.Str.Parse.{parse_digits}
use Rattle.stack_base.proofs.NumeralLemmas.{AllAreDigits, numerals}
use Rattle.trace_text.specs.Reading.{is_plain, plain_number}

is_parsed : {E : Type 0} (limit : ℕ) (word : List ℕ) (r : Result ℕ E) → is_plain word ≡ true
    → OkIff r ((0 < length word) × (digits_value 10 word < limit)) (digits_value 10 word) → result_ok r ≡ plain_number limit word
unfolding plain_number
is_parsed limit word (Ok n) plain parsed = grind (arith, nat_tests)
is_parsed limit word (Err e) plain parsed = grind (arith, nat_tests)

-- plain digits, as `parse` reads them
pub number_is_parsed : {E : Type 0} (bits : ℕ) (word : List ℕ) (r : Result ℕ E) → is_plain word ≡ true
    → ParsesUnsigned bits 10 word r → result_ok r ≡ plain_number (2 ^ bits) word
number_is_parsed bits word r plain parsed =
    let digits : AllAreDigits word = grind (arith, nat_tests) in
    is_parsed (2 ^ bits) word r plain (parse_digits numerals bits word r parsed digits)
