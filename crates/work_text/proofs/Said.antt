-- Lines that are made of words, as they are read.
use Rattle.std.proofs.Common.{◌≡◌, ◌∙◌, ◌≤◌, ◌<◌, ◌^◌, ◌==◌, ◌&&◌, ℕ, Bool, true, false, not, zero, suc, List, [], ◌∷◌, ◌++◌, map, length, decimal, refl, sym, ap, append_assoc, arith, Some, true≢false}
use Rattle.std.specs.List.{All, list_all, list_any, slice_split, filter}
use Rattle.std.specs.Char.{is_ascii_digit}
use Rattle.std.specs.Str.Parse.{digits_value}
use Rattle.std.proofs.lemmas.Bool.Decides.{nat_tests}
use Rattle.std.proofs.lemmas.Fmt.{decimal_is_IsNumeral, length-decimal-le}
use Rattle.std.proofs.lemmas.List.Splits.{slice_split_at, slice_split_none}
use Rattle.std.proofs.lemmas.Bool.{and_parts, not-true}
use Rattle.stack_base.proofs.ListLemmas.{Each}
use Rattle.stack_base.proofs.NumeralLemmas.{AllAreDigits, numerals}
use Rattle.decl_text.specs.Text.{is_blank, is_option, is_some_text, is_text, is_text_byte, lines, number_of, without_empty_end, words}
use Rattle.decl_text.proofs.SplitLemmas.{no_lines}
use Rattle.work_text.specs.Generated.{line_of, text_of}

all_of : {X : Type 0} (P : X → Type 0) (xs : List X) → Each P xs → All P xs
all_of P [] each k d lt = absurd (omega (arith, lt))
all_of P (x ∷ xs) each zero d lt = each.0
all_of P (x ∷ xs) each (suc k) d lt = all_of P xs each.1 k d (omega (arith, lt))

-- a byte that is neither a blank nor the end of a line, and is text
pub record IsWordByte (byte : ℕ) : Type 0 where
  pub blank : is_blank byte ≡ false
  pub end : (byte == 10) ≡ false
  pub text : is_text_byte byte ≡ true

-- a word has a byte, and all are such
pub record IsWord (word : List ℕ) : Type 0 where
  pub some : is_some_text word ≡ true
  pub bytes : Each IsWordByte word

no_blanks : (word : List ℕ) → Each IsWordByte word → Each (λ byte. is_blank byte ≡ false) word
no_blanks [] each = tt
no_blanks (byte ∷ word) each = (each.0.blank, no_blanks word each.1)

no_ends : (word : List ℕ) → Each IsWordByte word → Each (λ byte. (byte == 10) ≡ false) word
no_ends [] each = tt
no_ends (byte ∷ word) each = (each.0.end, no_ends word each.1)

all_text : (word : List ℕ) → Each IsWordByte word → list_all is_text_byte word ≡ true
all_text [] each = refl
all_text (byte ∷ word) each = rw (each.0.text, all_text word each.1) refl

-- a line without its end
abbrev pub body_of : List (List ℕ) → List ℕ
body_of [] = []
body_of (word ∷ []) = word
body_of (word ∷ next ∷ more) = word ++ 32 ∷ body_of (next ∷ more)

pub line_body : (line : List (List ℕ)) → line_of line ≡ body_of line ++ 10 ∷ []
line_body [] = refl
line_body (word ∷ []) = refl
line_body (word ∷ next ∷ more) = ap (λ rest. word ++ 32 ∷ rest) (line_body (next ∷ more)) ∙ sym (append_assoc word (32 ∷ body_of (next ∷ more)) (10 ∷ []))

each_on : (P : ℕ → Type 0) (one other : List ℕ) → Each P one → Each P other → Each P (one ++ other)
each_on P [] other a b = b
each_on P (x ∷ one) other a b = (a.0, each_on P one other a.1 b)

body_ends : (line : List (List ℕ)) → Each IsWord line → Each (λ byte. (byte == 10) ≡ false) (body_of line)
body_ends [] are = tt
body_ends (word ∷ []) are = no_ends word are.0.bytes
body_ends (word ∷ next ∷ more) are = each_on _ word (32 ∷ body_of (next ∷ more)) (no_ends word are.0.bytes) (refl, body_ends (next ∷ more) are.1)

text_on : (one other : List ℕ) → list_all is_text_byte one ≡ true → list_all is_text_byte other ≡ true → list_all is_text_byte (one ++ other) ≡ true
text_on [] other a b = b
text_on (x ∷ one) other a b = go (is_text_byte x) refl a (text_on one other)
  where
    go : (t : Bool) → is_text_byte x ≡ t → (t && list_all is_text_byte one) ≡ true → (list_all is_text_byte one ≡ true → list_all is_text_byte other ≡ true → list_all is_text_byte (one ++ other) ≡ true)
        → (is_text_byte x && list_all is_text_byte (one ++ other)) ≡ true
    go true e a later = rw (e, later a b) refl
    go false e a later = absurd (true≢false (sym a))

pub body_text : (line : List (List ℕ)) → Each IsWord line → is_text (body_of line) ≡ true
body_text [] are = refl
body_text (word ∷ []) are = all_text word are.0.bytes
body_text (word ∷ next ∷ more) are = text_on word (32 ∷ body_of (next ∷ more)) (all_text word are.0.bytes) (body_text (next ∷ more) are.1)

kept_word : (word : List ℕ) (rest : List (List ℕ)) → is_some_text word ≡ true → filter is_some_text (word ∷ rest) ≡ word ∷ filter is_some_text rest
kept_word word rest some = rw some refl

pub body_words : (line : List (List ℕ)) → Each IsWord line → words (body_of line) ≡ line
body_words [] are = refl
body_words (word ∷ []) are = ap (filter is_some_text) (slice_split_none is_blank word (all_of _ word (no_blanks word are.0.bytes))) ∙ kept_word word [] are.0.some
body_words (word ∷ next ∷ more) are =
    ap (filter is_some_text) (slice_split_at is_blank word 32 (body_of (next ∷ more)) (all_of _ word (no_blanks word are.0.bytes)) refl)
    ∙ kept_word word (slice_split is_blank (body_of (next ∷ more))) are.0.some ∙ ap (λ rest. word ∷ rest) (body_words (next ∷ more) are.1)

kept : (part : List ℕ) (parts : List (List ℕ)) → is_some_text part ≡ true → without_empty_end (part ∷ parts) ≡ part ∷ without_empty_end parts
unfolding without_empty_end
kept [] parts some = absurd (true≢false (sym some))
kept (byte ∷ part) parts some = refl

-- the first line of a text
front_line : (body text : List ℕ) → is_some_text body ≡ true → Each (λ byte. (byte == 10) ≡ false) body → lines ((body ++ 10 ∷ []) ++ text) ≡ body ∷ lines text
front_line body text some ends =
    ap lines (append_assoc body (10 ∷ []) text) ∙ ap without_empty_end (slice_split_at (λ byte. byte == 10) body 10 text (all_of _ body ends) refl)
    ∙ kept body (slice_split (λ byte. byte == 10) text) some

-- the first word of a line has a byte, so the line has
body_some : (line : List (List ℕ)) → Each IsWord line → 1 ≤ length line → is_some_text (body_of line) ≡ true
body_some [] are some = absurd (omega (arith, some))
body_some (word ∷ []) are some = are.0.some
body_some (word ∷ next ∷ more) are some = go word are.0.some
  where
    go : (w : List ℕ) → is_some_text w ≡ true → is_some_text (w ++ 32 ∷ body_of (next ∷ more)) ≡ true
    go [] e = refl
    go (byte ∷ w) e = refl

abbrev pub IsLine : List (List ℕ) → Type 0
IsLine line = Each IsWord line × (1 ≤ length line)

-- the lines of a text are those that it is made of
pub text_lines : (all : List (List (List ℕ))) → Each IsLine all → lines (text_of all) ≡ map body_of all
text_lines [] are = no_lines
text_lines (line ∷ all) are =
    ap (λ front. lines (front ++ text_of all)) (line_body line)
    ∙ front_line (body_of line) (text_of all) (body_some line are.0.0 are.0.1) (body_ends line are.0.0)
    ∙ ap (λ rest. body_of line ∷ rest) (text_lines all are.1)

-- ---- numbers

decimal_digits : (n : ℕ) → n < 2 ^ 64 → AllAreDigits (decimal n)
decimal_digits n small = numerals.from (decimal n) (decimal_is_IsNumeral n small).0.1

digit_byte : (byte : ℕ) → is_ascii_digit byte ≡ true → IsWordByte byte
digit_byte byte digit = record { blank = grind (arith, nat_tests); end = grind (arith, nat_tests); text = grind (arith, nat_tests) }

digit_bytes : (word : List ℕ) → AllAreDigits word → Each IsWordByte word
digit_bytes [] digits = tt
digit_bytes (byte ∷ word) digits =
    let parts = and_parts (is_ascii_digit byte) (list_all is_ascii_digit word) digits in
    (digit_byte byte parts.0, digit_bytes word parts.1)

no_equals : (word : List ℕ) → AllAreDigits word → list_any (λ byte. byte == 61) word ≡ false
no_equals [] digits = refl
no_equals (byte ∷ word) digits =
    let parts = and_parts (is_ascii_digit byte) (list_all is_ascii_digit word) digits in
    let other : (byte == 61) ≡ false = let digit = parts.0 in grind (arith, nat_tests) in
    rw (other, no_equals word parts.1) refl

-- a word that writes a number
pub record Writes (word : List ℕ) (n : ℕ) : Type 0 where
  pub is_word : IsWord word
  pub option : is_option word ≡ false
  pub value : digits_value 10 word ≡ n
  pub number : number_of word ≡ Some n
  pub small : n < 2 ^ 64

some_of_length : (word : List ℕ) → 0 < length word → is_some_text word ≡ true
some_of_length [] lt = absurd (omega (arith, lt))
some_of_length (byte ∷ word) lt = refl

number_is : (word : List ℕ) (n : ℕ) → AllAreDigits word → 0 < length word → length word ≤ 20 → digits_value 10 word ≡ n → n < 2 ^ 64 → number_of word ≡ Some n
unfolding number_of
number_is word n digits some few value small = grind (arith, nat_tests)

pub decimal_writes : (n : ℕ) → n < 2 ^ 64 → Writes (decimal n) n
decimal_writes n small =
    let numeral = decimal_is_IsNumeral n small in
    let digits = decimal_digits n small in
    record {
      is_word = record { some = some_of_length (decimal n) numeral.0.0; bytes = digit_bytes (decimal n) digits };
      option = no_equals (decimal n) digits;
      value = numeral.1;
      number = number_is (decimal n) n digits numeral.0.0 (length-decimal-le 20 n (omega arith) (omega (arith, small)) small) numeral.1 small;
      small = small;
    }

-- ---- words that are written out

abbrev pub is_word_byte : ℕ → Bool
is_word_byte byte = not (is_blank byte) && (not (byte == 10) && is_text_byte byte)

byte_by : (byte : ℕ) → is_word_byte byte ≡ true → IsWordByte byte
byte_by byte test =
    let blank = and_parts (not (is_blank byte)) (not (byte == 10) && is_text_byte byte) test in
    let rest = and_parts (not (byte == 10)) (is_text_byte byte) blank.1 in
    record { blank = not-true (is_blank byte) blank.0; end = not-true (byte == 10) rest.0; text = rest.1 }

bytes_by : (word : List ℕ) → list_all is_word_byte word ≡ true → Each IsWordByte word
bytes_by [] test = tt
bytes_by (byte ∷ word) test =
    let parts = and_parts (is_word_byte byte) (list_all is_word_byte word) test in
    (byte_by byte parts.0, bytes_by word parts.1)

pub word_by : (word : List ℕ) → (is_some_text word && list_all is_word_byte word) ≡ true → IsWord word
word_by word test =
    let parts = and_parts (is_some_text word) (list_all is_word_byte word) test in
    record { some = parts.0; bytes = bytes_by word parts.1 }

-- such a word, and one behind it
pub word_on : (front back : List ℕ) → IsWord front → IsWord back → IsWord (front ++ back)
word_on front back one other = record { some = go front one.some; bytes = each_on _ front back one.bytes other.bytes }
  where
    go : (w : List ℕ) → is_some_text w ≡ true → is_some_text (w ++ back) ≡ true
    go [] e = absurd (true≢false (sym e))
    go (byte ∷ w) e = refl
