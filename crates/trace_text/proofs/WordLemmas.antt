-- Words of few choices, numbers and fixed words, read as they are written.
use Rattle.std.proofs.Common.{◌≡◌, ◌<◌, ◌≤◌, ◌^◌, ◌&&◌, cond, ℕ, zero, suc, Bool, true, false, nat_lt, List, [], ◌∷◌, length, get_or, Option, Some, refl, ap, sym, ◌∙◌, subst, arith}
use Rattle.std.specs.Prelude.{decimal}
use Rattle.std.specs.List.{list_all}
use Rattle.std.specs.Char.{is_ascii_digit}
use Rattle.std.specs.Str.{bytes_eq}
use Rattle.std.specs.Str.Parse.{digits_value}
use Rattle.std.proofs.lemmas.Option.{cond_some}
use Rattle.std.proofs.lemmas.Bool.Decides.{nat_tests}
use Rattle.std.proofs.lemmas.Slice.Eq.{bytes_eq-Decides}
use Rattle.std.proofs.lemmas.Fmt.{decimal_digit, decimal_nonempty, first_decimal, digits_decimal, digits_value-decimal, decimal-digits_value}
use Rattle.stack_base.specs.declared.ids.Status.{Status}
use Rattle.stack_base.specs.declared.ids.Status.TheVariants as status
use Rattle.run_machine.specs.declared.event.Got.{Got}
use Rattle.run_machine.specs.declared.event.Got.TheVariants as got
use Rattle.run_machine.specs.declared.event.How.{How}
use Rattle.run_machine.specs.declared.event.How.TheVariants as how
use Rattle.run_machine.specs.declared.event.End.{End}
use Rattle.run_machine.specs.declared.event.End.TheVariants as end
use Rattle.run_machine.specs.StatusWords.{status_word}
use Rattle.trace_text.specs.declared.verb.Verb.{Verb}
use Rattle.trace_text.specs.declared.verb.Verb.TheVariants as verb
use Rattle.trace_text.specs.Lines.{got_word, how_word, end_word}
use Rattle.trace_text.specs.Reading.{with_word, all_verbs, verb_word, verb_of_word, all_statuses, status_of_word, all_gots, got_of_word, all_hows, how_of_word, all_ends, end_of_word, is_plain, plain_number, fixed_word}
use Rattle.stack_base.proofs.NumeralLemmas.{AllAreDigits, numerals}
use Rattle.trace_text.proofs.Readers.{IsWord}

-- what was found has the word
found_first : {A : Type 0} (b : Bool) (one a : A) (more : Option A) (P : A → Type 0)
    → (b ≡ true → P one) → (more ≡ Some a → P a) → cond b (Some one) more ≡ Some a → P a
found_first true one a more P here later e = subst P (cc) (here refl)
found_first false one a more P here later e = later e

found_word : {A : Type 0} (word_of : A → List ℕ) (all : List A) (word : List ℕ) (a : A) → with_word word_of all word ≡ Some a → word ≡ word_of a
found_word word_of [] word a e = absurd (cc)
found_word word_of (one ∷ all) word a e =
    found_first (bytes_eq (word_of one) word) one a (with_word word_of all word) (λ x. word ≡ word_of x)
    (λ is. sym ((bytes_eq-Decides (word_of one) word).0 is)) (found_word word_of all word a) e

of_choice : {A : Type 0} (word_of : A → List ℕ) (all : List A) → ((a : A) → with_word word_of all (word_of a) ≡ Some a)
    → IsWord word_of (λ a. Unit {0}) (with_word word_of all)
of_choice word_of all again = record {
  again = λ a is. again a;
  takes = λ word a e. (tt, found_word word_of all word a e);
}

-- each verb is read again as itself
verb_again : (one : Verb) → verb_of_word (verb_word one) ≡ Some one
verb_again verb.Take = refl
verb_again verb.Try = refl
verb_again verb.Give = refl
verb_again verb.Punt = refl
verb_again verb.Pop = refl
verb_again verb.Push = refl
verb_again verb.Complete = refl
verb_again verb.Link = refl
verb_again verb.Drop = refl
verb_again verb.Done = refl
verb_again verb.Resize = refl
verb_again verb.Round = refl

pub verb_is : IsWord verb_word (λ one. Unit {0}) verb_of_word
verb_is = of_choice verb_word all_verbs verb_again

status_again : (one : Status) → status_of_word (status_word one) ≡ Some one
status_again status.Ok = refl
status_again status.Io = refl
status_again status.Medium = refl
status_again status.NoSpace = refl

pub status_is : IsWord status_word (λ one. Unit {0}) status_of_word
status_is = of_choice status_word all_statuses status_again

got_again : (one : Got) → got_of_word (got_word one) ≡ Some one
got_again got.Ordinary = refl
got_again got.Spare = refl
got_again got.Missed = refl

pub got_is : IsWord got_word (λ one. Unit {0}) got_of_word
got_is = of_choice got_word all_gots got_again

how_again : (one : How) → how_of_word (how_word one) ≡ Some one
how_again how.Write = refl
how_again how.Chain = refl
how_again how.Master = refl
how_again how.Leg = refl

pub how_is : IsWord how_word (λ one. Unit {0}) how_of_word
how_is = of_choice how_word all_hows how_again

end_again : (one : End) → end_of_word (end_word one) ≡ Some one
end_again end.Left = refl
end_again end.Up = refl
end_again end.Top = refl

pub end_is : IsWord end_word (λ one. Unit {0}) end_of_word
end_is = of_choice end_word all_ends end_again

pub mark_is : (mark : List ℕ) → IsWord (λ (one : Unit {0}). mark) (λ one. Unit {0}) (fixed_word mark)
mark_is mark = record {
  again = λ a is. rw ((bytes_eq-Decides mark mark).1 refl) refl;
  takes = λ word a e. (tt, (bytes_eq-Decides word mark).0 (cond_some (bytes_eq word mark) tt a e).0);
}

plain_from : (word : List ℕ) → 0 < length word → list_all is_ascii_digit word ≡ true → 48 < get_or word 0 0 → is_plain word ≡ true
plain_from word some digits first = grind (arith, nat_tests)

-- decimal numbers are plain digits
plain_decimal : (n : ℕ) → n < 2 ^ 64 → is_plain (decimal n) ≡ true
plain_decimal zero small = rw (decimal_digit 0 (omega arith)) refl
plain_decimal (suc n) small =
    let some : 0 < length (decimal (suc n)) = decimal_nonempty (suc n) small in
    let digits : list_all is_ascii_digit (decimal (suc n)) ≡ true = digits_decimal numerals (suc n) small in
    let first : 48 < get_or (decimal (suc n)) 0 0 = first_decimal (suc n) (omega arith) small in
    plain_from (decimal (suc n)) some digits first

number_again : (limit n : ℕ) → limit ≤ 2 ^ 64 → n < limit → plain_number limit (decimal n) ≡ Some n
unfolding plain_number
number_again limit n most small =
    let plain : is_plain (decimal n) ≡ true = plain_decimal n (omega arith) in
    let value : digits_value 10 (decimal n) ≡ n = digits_value-decimal numerals n (omega arith) in
    rw (plain, value) (grind (arith, nat_tests))

number_takes : (limit : ℕ) (word : List ℕ) (n : ℕ) → limit ≤ 2 ^ 64 → plain_number limit word ≡ Some n → (n < limit) × (word ≡ decimal n)
unfolding plain_number
number_takes limit word n most e =
    let parts = cond_some (is_plain word && nat_lt (digits_value 10 word) limit) (digits_value 10 word) n e in
    let plain : is_plain word ≡ true = grind (arith, nat_tests) in
    let small : digits_value 10 word < limit = grind (arith, nat_tests) in
    let digits : AllAreDigits word = grind (arith, nat_tests) in
    let some : 0 < length word = grind (arith, nat_tests) in
    let first : get_or word 0 0 ≡ 48 → length word ≡ 1 = grind (arith, nat_tests) in
    (subst (λ m. m < limit) parts.1 small, sym (decimal-digits_value numerals word digits some first (omega arith)) ∙ ap decimal parts.1)

pub number_is : (limit : ℕ) → limit ≤ 2 ^ 64 → IsWord decimal (λ n. n < limit) (plain_number limit)
number_is limit most = record {
  again = λ n small. number_again limit n most small;
  takes = λ word n e. number_takes limit word n most e;
}
