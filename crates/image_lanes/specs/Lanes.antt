-- What the kernels answer, of whole lists of words.
use Rattle.std.specs.Prelude.{◌≡◌, ℕ, zero, suc, ◌+◌, ◌*◌, ◌/◌, ◌%◌, ◌^◌, ◌==◌, ◌<◌, ◌≤◌, Bool, not, List, [], ◌∷◌, map, zip, length, take, drop, sum}
use Rattle.std.specs.List.{range_with_len, count_by}
use Rattle.std.specs.Cmp.Lexicographic.{pointwise}

-- so many words that count up from the first, each modulo 2 ^ 64
unfoldable pub counting : ℕ → ℕ → List ℕ
counting first count = map (λ i. (first + i) % 2 ^ 64) (range_with_len 0 count)

-- the sum of the words, modulo 2 ^ 64
abbrev pub sum_mod : List ℕ → ℕ
sum_mod words = sum words % 2 ^ 64

-- whether two lists of words are one
abbrev pub equal_words : List ℕ → List ℕ → Bool
equal_words = pointwise (λ one other. one == other)

-- the first sectors of a list of words, each of 64
unfoldable pub sectors : ℕ → List ℕ → List (List ℕ)
sectors zero words = []
sectors (suc count) words = take 64 words ∷ sectors count (drop 64 words)

-- how many of the first sectors differ
unfoldable pub unlike_of : ℕ → List ℕ → List ℕ → ℕ
unlike_of count one other = count_by (λ pair. not (equal_words pair.0 pair.1)) (zip (sectors count one) (sectors count other))

-- how many sectors differ
abbrev pub unlike : List ℕ → List ℕ → ℕ
unlike one other = unlike_of (length one / 64) one other

-- whether the sectors at a place differ
abbrev pub sectors_differ : List ℕ → List ℕ → ℕ → Bool
sectors_differ one other place = not (equal_words (take 64 (drop (64 * place) one)) (take 64 (drop (64 * place) other)))

-- the first place at or behind `from`, of those before `end`, at which a test tells this, or `end` where there is none
pub record IsFirstWhere (test : ℕ → Bool) (from end : ℕ) (is : Bool) (place : ℕ) : Type 0 where
  pub behind : from ≤ place
  pub within : place ≤ end
  pub others : (i : ℕ) → from ≤ i → i < place → test i ≡ not is
  pub here : place < end → test place ≡ is

-- the first at which sectors differ, or at which they do not
abbrev pub IsFirstSector : List ℕ → List ℕ → ℕ → Bool → ℕ → Type 0
IsFirstSector one other from differing place = IsFirstWhere (sectors_differ one other) from (length one / 64) differing place
