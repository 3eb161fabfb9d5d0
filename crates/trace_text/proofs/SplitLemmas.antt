-- What a line that is cut at its blanks is joined to.
use Rattle.std.proofs.Common.{◌≡◌, ◌+◌, ℕ, Bool, false, List, [], ◌∷◌, length, Some, None, refl, arith}
use Rattle.std.specs.Prelude.{◌==◌, not, is_some, Option}
use Rattle.std.specs.Borrow.{Bor}
use Rattle.std.specs.List.{slice_split, count_by}
use Rattle.trace_text.specs.Reading.{is_nil, words_in}
use Rattle.std.proofs.lemmas.List.Splits.{length-slice_split}

some_part : (parts : List (List ℕ)) (n : ℕ) → length parts ≡ n + 1 → is_nil parts ≡ false
some_part [] n many = absurd (omega (arith, many))
some_part (part ∷ parts) n many = refl

-- a line has a word, if an empty one
pub not_nil : (p : ℕ → Bool) (bytes : List ℕ) → is_nil (slice_split p bytes) ≡ false
not_nil p bytes = some_part (slice_split p bytes) (count_by p bytes) (length-slice_split p bytes)

-- so nothing is left of a line just where no word is
pub left_words : (rest : Option (Bor (List ℕ))) (none : Bool) → is_some rest ≡ not none → none ≡ is_nil (words_in rest)
left_words None none is = grind arith
left_words (Some rest) none is = grind (arith, not_nil (λ byte. byte == 32) rest.now)
