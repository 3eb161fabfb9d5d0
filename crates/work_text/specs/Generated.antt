-- The text that the generator makes of a number.
use Rattle.std.specs.Prelude.{◌≡◌, ◌+◌, ◌*◌, ◌/◌, ◌%◌, ◌==◌, if◌then◌else◌, nat_le, min, zero, suc, List, [], ◌∷◌, ◌++◌, ℕ, codes, decimal, None}
use Rattle.rand_core.specs.Pcg32Seed.{pcg32_seed}
use Rattle.rand_pcg.specs.Lcg.{Lcg}
use Rattle.work_text.specs.Whole.{text_refusal}
use Rattle.rand_pcg.specs.Pcg.{pcg32, pcg32_of_seed}

-- ---- the words of a number

-- the generator before the first word
abbrev pub generator : ℕ → Lcg
generator number = pcg32_of_seed (pcg32_seed 16 number)

-- the next word, and the generator behind it
abbrev pub word : Lcg → ℕ
word g = (pcg32 g).0

abbrev pub behind : Lcg → Lcg
behind g = (pcg32 g).1

-- behind so many words
abbrev pub behind_all : ℕ → Lcg → Lcg
behind_all zero g = g
behind_all (suc n) g = behind_all n (behind g)

-- ---- lines

-- a line has its words with a blank (32) between them, and ends with byte 10
abbrev pub line_of : List (List ℕ) → List ℕ
line_of [] = 10 ∷ []
line_of (word ∷ []) = word ++ 10 ∷ []
line_of (word ∷ next ∷ more) = word ++ 32 ∷ line_of (next ∷ more)

-- the line of these words was added behind the old bytes
abbrev pub AddsLineOf : List (List ℕ) → List ℕ → List ℕ → Type 0
AddsLineOf words old new = new ≡ old ++ line_of words

abbrev pub text_of : List (List (List ℕ)) → List ℕ
text_of [] = []
text_of (words ∷ more) = line_of words ++ text_of more

-- ---- the declarations: a mirror over two stripes, each over two limits of a disk

abbrev pub disk_words : List ℕ → List (List ℕ)
disk_words name = codes "disk" ∷ name ∷ codes "32768" ∷ []

abbrev pub limit_words : List ℕ → List ℕ → ℕ → List (List ℕ)
limit_words name disk longest = codes "limit" ∷ name ∷ (codes "max=" ++ decimal longest) ∷ disk ∷ []

abbrev pub stripe_words : List ℕ → List ℕ → List ℕ → ℕ → List (List ℕ)
stripe_words name first second chunk = codes "stripe" ∷ name ∷ (codes "chunk=" ++ decimal chunk) ∷ first ∷ second ∷ []

-- the most sectors of a limit, and the chunk of a stripe, each by the next word
abbrev pub longest_in : Lcg → ℕ
longest_in g = 16 + word g % 241

abbrev pub chunk_in : Lcg → ℕ
chunk_in g = 8 * (1 + word g % 32)

-- where so many declarations have no memory
abbrev pub memory_words : ℕ → List (List (List ℕ))
memory_words number = if number % 2 == 1 then (codes "memory" ∷ codes "none" ∷ []) ∷ [] else []

abbrev pub declaration_words : ℕ → Lcg → List (List (List ℕ))
declaration_words number g =
    disk_words (codes "d0") ∷ disk_words (codes "d1") ∷ disk_words (codes "d2") ∷ disk_words (codes "d3")
    ∷ limit_words (codes "l0") (codes "d0") (longest_in g)
    ∷ limit_words (codes "l1") (codes "d1") (longest_in (behind_all 1 g))
    ∷ limit_words (codes "l2") (codes "d2") (longest_in (behind_all 2 g))
    ∷ limit_words (codes "l3") (codes "d3") (longest_in (behind_all 3 g))
    ∷ stripe_words (codes "s0") (codes "l0") (codes "l1") (chunk_in (behind_all 4 g))
    ∷ stripe_words (codes "s1") (codes "l2") (codes "l3") (chunk_in (behind_all 5 g))
    ∷ (codes "mirror" ∷ codes "m" ∷ codes "s0" ∷ codes "s1" ∷ [])
    ∷ memory_words number

-- the sectors of a stripe over two members of 32,768 sectors, and of the mirror
abbrev pub stripe_size : ℕ → ℕ
stripe_size chunk = 2 * chunk * (32768 / chunk)

abbrev pub mirror_size : Lcg → ℕ
mirror_size g = min (stripe_size (chunk_in (behind_all 4 g))) (stripe_size (chunk_in (behind_all 5 g)))

-- ---- the writes

pub record Run : Type 0 where
  pub start : ℕ
  pub count : ℕ

-- how many sectors the next writes have, each by the next word
abbrev pub counts : ℕ → Lcg → List ℕ
counts zero g = []
counts (suc n) g = (1 + word g % 512) ∷ counts n (behind g)

-- runs of these counts, one behind the other from here on, as long as they fit
abbrev pub runs : ℕ → ℕ → List ℕ → List Run
runs sectors start [] = []
runs sectors start (count ∷ more) =
    if nat_le (start + count) sectors then record { start = start; count = count } ∷ runs sectors (start + count) more else []

abbrev pub write_words : ℕ → Run → List (List ℕ)
write_words number run =
    codes "write" ∷ decimal (number % 4) ∷ codes "m" ∷ decimal run.start ∷ decimal run.count ∷ decimal (64 * run.start) ∷ []

-- the writes of these runs, the first of which has this number
abbrev pub words_of_runs : ℕ → List Run → List (List (List ℕ))
words_of_runs number [] = []
words_of_runs number (run ∷ more) = write_words number run ∷ words_of_runs (number + 1) more

-- writes by the next words, as many as fit so many sectors; each write has a sector, so one count for each sector is enough
abbrev pub fitting_writes : ℕ → Lcg → List (List (List ℕ))
fitting_writes sectors g = words_of_runs 0 (runs sectors 0 (counts (sectors + 1) g))

-- behind the words of the declarations
abbrev pub writes : Lcg → List (List (List ℕ))
writes g = fitting_writes (mirror_size g) (behind_all 6 g)

-- ---- the text

abbrev pub generated_lines : ℕ → List (List (List ℕ))
generated_lines number = declaration_words number (generator number) ++ writes (generator number)

abbrev pub generated : ℕ → List ℕ
generated number = text_of (generated_lines number)

-- the text of no number is refused
abbrev pub NoGeneratedTextIsRefused : Type 0
NoGeneratedTextIsRefused = (number : ℕ) → text_refusal (generated number) ≡ None
