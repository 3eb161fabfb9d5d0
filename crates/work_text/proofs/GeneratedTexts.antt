-- No generated text is refused.
use Rattle.std.proofs.Common.{◌≡◌, ◌∙◌, ◌+◌, ◌*◌, ◌/◌, ◌%◌, ◌≤◌, ◌==◌, ℕ, Bool, true, false, zero, suc, List, [], ◌∷◌, ◌++◌, map, length, min, codes, decimal, refl, ap, ap₂, arith, Some, None, nat_le, length-append}
use Rattle.std.specs.Prelude.{if◌then◌else◌}
use Rattle.std.proofs.Math.Nat.{le-div_iff_mul-le, mul-div-le, mul-le-mul, mul_assoc}
use Rattle.std.proofs.lemmas.Bool.{le-ltb, leb-true}
use Rattle.std.proofs.lemmas.Fmt.{length-decimal-le}
use Rattle.stack_base.proofs.ListLemmas.{Each}
use Rattle.stack_base.proofs.NumberLemmas.{not_zero}
use Rattle.decl_text.specs.Text.{lines, most_bytes}
use Rattle.decl_text.specs.Known.{nothing_declared}
use Rattle.decl_text.specs.Items.{number}
use Rattle.decl_text.specs.Refusals.{refusal, refused}
use Rattle.decl_text.specs.declared.reason.Reason.TheVariants.{TooLong}
use Rattle.decl_text.specs.declared.item.Item.TheVariants as item
use Rattle.rand_pcg.specs.Lcg.{Lcg}
use Rattle.work_text.specs.Work.{all_checks}
use Rattle.work_text.specs.Generated.{NoGeneratedTextIsRefused, Run, behind, behind_all, chunk_in, counts, declaration_words, disk_words, generated, generated_lines, generator, limit_words, line_of, longest_in, memory_words, mirror_size, runs, stripe_size, stripe_words, text_of, write_words, writes, words_of_runs}
use Rattle.work_text.proofs.GeneratorLemmas.{text_of-append}
use Rattle.work_text.proofs.Said.{IsLine, IsWord, Writes, body_of, decimal_writes, text_lines, word_by, word_on}
use Rattle.work_text.proofs.Generating.{disk_item, disk0, disk1, disk2, disk3, k1, k2, k3, k4, k5, k6, k7, k8, k9, k10, k11, limit_item, limit0, limit1, limit2, limit3, memory, mirror, mirror_item, one_line, stripe_item, stripe_of, stripe0, stripe1}
use Rattle.work_text.proofs.GeneratedWrites.{Before, with_writes, words_are, writes_right}

-- ---- numbers

counts_few : (n : ℕ) (g : Lcg) → Each (λ count. (1 ≤ count) × (count ≤ 512)) (counts n g)
counts_few zero g = tt
counts_few (suc n) g = ((omega arith, omega arith), counts_few n (behind g))

longest_some : (g : Lcg) → (1 ≤ longest_in g) × (longest_in g ≤ 256)
longest_some g = (omega arith, omega arith)

chunk_some : (g : Lcg) → (1 ≤ chunk_in g) × (chunk_in g ≤ 256)
chunk_some g = (omega arith, omega arith)

stripe_some : (chunk : ℕ) → 1 ≤ chunk → chunk ≤ 256 → (1 ≤ stripe_size chunk) × (stripe_size chunk ≤ 65536)
stripe_some chunk some few =
    let q = 32768 / chunk in
    let one : 1 ≤ q = (le-div_iff_mul-le {k = chunk} {x = 1} {y = 32768} some).1 (omega (arith, few)) in
    let most : chunk * q ≤ 32768 = mul-div-le 32768 chunk in
    let least : 1 * 1 ≤ chunk * q = mul-le-mul some one in
    let same : 2 * chunk * q ≡ 2 * (chunk * q) = mul_assoc 2 chunk q in
    (omega (arith, least, same), omega (arith, most, same))

-- ---- lengths

pub line_short : (k : ℕ) (run : Run) → run.start ≤ 65536 → run.count ≤ 512 → length (line_of (write_words k run)) ≤ 28
line_short k run at few =
    let t = length-decimal-le 1 (k % 4) (omega arith) (omega arith) (omega arith) in
    let s = length-decimal-le 5 run.start (omega arith) (omega (arith, at)) (omega (arith, at)) in
    let n = length-decimal-le 3 run.count (omega arith) (omega (arith, few)) (omega (arith, few)) in
    let g = length-decimal-le 7 (64 * run.start) (omega arith) (omega (arith, at)) (omega (arith, at)) in
    omega (
      arith,
      t,
      s,
      n,
      g,
      length-append (decimal (k % 4)) (codes " m " ++ (decimal run.start ++ 32 ∷ (decimal run.count ++ 32 ∷ (decimal (64 * run.start) ++ 10 ∷ [])))),
      length-append (decimal run.start) (32 ∷ (decimal run.count ++ 32 ∷ (decimal (64 * run.start) ++ 10 ∷ []))),
      length-append (decimal run.count) (32 ∷ (decimal (64 * run.start) ++ 10 ∷ [])),
      length-append (decimal (64 * run.start)) (10 ∷ []),
    )

-- the writes from a sector on are lines, of 28 bytes at most for each sector that is left
module _ (sectors : ℕ) (small : sectors ≤ 65536) where
  abbrev AreRight : ℕ → List (List (List ℕ)) → Type 0
  AreRight start all = Each IsLine all × (length (text_of all) + 28 * start ≤ 28 * sectors)

  runs_right : (counts : List ℕ) → Each (λ count. (1 ≤ count) × (count ≤ 512)) counts → (k start : ℕ) → start ≤ sectors → AreRight start (words_of_runs k (runs sectors start counts))
  runs_right [] each k start within = (tt, omega (arith, within))
  runs_right (count ∷ more) each k start within = go (nat_le (start + count) sectors) refl (λ fits. runs_right more each.1 (k + 1) (start + count) fits)
    where
      go : (b : Bool) → nat_le (start + count) sectors ≡ b → (start + count ≤ sectors → AreRight (start + count) (words_of_runs (k + 1) (runs sectors (start + count) more)))
          → AreRight start (words_of_runs k (if b then record { start = start; count = count } ∷ runs sectors (start + count) more else []))
      go false is later = (tt, omega (arith, within))
      go true is later =
          let fits = leb-true (start + count) sectors is in
          let rest = later fits in
          let run : Run = record { start = start; count = count } in
          let words = words_are [] [] [] [] [] [] _ _ _ _ (k % 4) start count (64 * start) (decimal_writes (k % 4) (omega arith)) (decimal_writes start (omega (arith, within, small)))
          (decimal_writes count (omega (arith, each.0.1))) (decimal_writes (64 * start) (omega (arith, within, small))) in
          let short = line_short k run (omega (arith, within, small)) each.0.1 in
          (((words, omega arith), rest.0), omega (arith, short, rest.1, each.0.0, length-append (line_of (write_words k run)) (text_of (words_of_runs (k + 1) (runs sectors (start + count) more)))))

-- ---- the declarations

-- each of these lines has words, and few bytes
abbrev IsShort : List (List ℕ) → Type 0
IsShort line = IsLine line × (length (line_of line) ≤ 100)

abbrev name_word : List ℕ → Type 0
name_word name = IsWord name × (length name ≤ 2)

disk_short : (name : List ℕ) → name_word name → IsShort (disk_words name)
disk_short name is =
    (((word_by (codes "disk") refl, (is.0, (word_by (codes "32768") refl, tt))), omega arith), omega (arith, is.1, length-append name (codes " 32768\n")))

limit_short : (name disk : List ℕ) (n : ℕ) → name_word name → name_word disk → n ≤ 256 → IsShort (limit_words name disk n)
limit_short name disk n one other few =
    let digits = length-decimal-le 3 n (omega arith) (omega (arith, few)) (omega (arith, few)) in (
      ((word_by (codes "limit") refl, (one.0, (word_on (codes "max=") (decimal n) (word_by (codes "max=") refl) (decimal_writes n (omega (arith, few))).is_word, (other.0, tt)))), omega arith),
      omega (arith, one.1, other.1, digits, length-append name (codes " max=" ++ (decimal n ++ 32 ∷ (disk ++ 10 ∷ []))), length-append (decimal n) (32 ∷ (disk ++ 10 ∷ [])), length-append disk (10 ∷ [])),
    )

stripe_short : (name first second : List ℕ) (n : ℕ) → name_word name → name_word first → name_word second → n ≤ 256 → IsShort (stripe_words name first second n)
stripe_short name first second n one two three few =
    let digits = length-decimal-le 3 n (omega arith) (omega (arith, few)) (omega (arith, few)) in (
      ((word_by (codes "stripe") refl, (one.0, (word_on (codes "chunk=") (decimal n) (word_by (codes "chunk=") refl) (decimal_writes n (omega (arith, few))).is_word, (two.0, (three.0, tt))))), omega arith),
      omega (
        arith,
        one.1,
        two.1,
        three.1,
        digits,
        length-append name (codes " chunk=" ++ (decimal n ++ 32 ∷ (first ++ 32 ∷ (second ++ 10 ∷ [])))),
        length-append (decimal n) (32 ∷ (first ++ 32 ∷ (second ++ 10 ∷ []))),
        length-append first (32 ∷ (second ++ 10 ∷ [])),
        length-append second (10 ∷ []),
      ),
    )

memory_short : (number : ℕ) → Each IsShort (memory_words number)
memory_short number = go (number % 2 == 1)
  where
    go : (odd : Bool) → Each IsShort (if odd then (codes "memory" ∷ codes "none" ∷ []) ∷ [] else [])
    go true = ((((word_by (codes "memory") refl, (word_by (codes "none") refl, tt)), omega arith), omega arith), tt)
    go false = tt

declarations_short : (number : ℕ) (g : Lcg) → Each IsShort (declaration_words number g)
declarations_short number g =
    let d0 : name_word (codes "d0") = (word_by (codes "d0") refl, omega arith) in
    let d1 : name_word (codes "d1") = (word_by (codes "d1") refl, omega arith) in
    let d2 : name_word (codes "d2") = (word_by (codes "d2") refl, omega arith) in
    let d3 : name_word (codes "d3") = (word_by (codes "d3") refl, omega arith) in
    let l0 : name_word (codes "l0") = (word_by (codes "l0") refl, omega arith) in
    let l1 : name_word (codes "l1") = (word_by (codes "l1") refl, omega arith) in
    let l2 : name_word (codes "l2") = (word_by (codes "l2") refl, omega arith) in
    let l3 : name_word (codes "l3") = (word_by (codes "l3") refl, omega arith) in
    let s0 : name_word (codes "s0") = (word_by (codes "s0") refl, omega arith) in
    let s1 : name_word (codes "s1") = (word_by (codes "s1") refl, omega arith) in
    let mirrored : IsShort (codes "mirror" ∷ codes "m" ∷ codes "s0" ∷ codes "s1" ∷ []) =
    (((word_by (codes "mirror") refl, (word_by (codes "m") refl, (s0.0, (s1.0, tt)))), omega arith), omega arith) in (
      disk_short (codes "d0") d0,
      (
        disk_short (codes "d1") d1,
        (
          disk_short (codes "d2") d2,
          (
            disk_short (codes "d3") d3,
            (
              limit_short (codes "l0") (codes "d0") (longest_in g) l0 d0 (longest_some g).1,
              (
                limit_short (codes "l1") (codes "d1") (longest_in (behind_all 1 g)) l1 d1 (longest_some (behind_all 1 g)).1,
                (
                  limit_short (codes "l2") (codes "d2") (longest_in (behind_all 2 g)) l2 d2 (longest_some (behind_all 2 g)).1,
                  (
                    limit_short (codes "l3") (codes "d3") (longest_in (behind_all 3 g)) l3 d3 (longest_some (behind_all 3 g)).1,
                    (
                      stripe_short (codes "s0") (codes "l0") (codes "l1") (chunk_in (behind_all 4 g)) s0 l0 l1 (chunk_some (behind_all 4 g)).1,
                      (
                        stripe_short (codes "s1") (codes "l2") (codes "l3") (chunk_in (behind_all 5 g)) s1 l2 l3 (chunk_some (behind_all 5 g)).1,
                        (mirrored, memory_short number),
                      ),
                    ),
                  ),
                ),
              ),
            ),
          ),
        ),
      ),
    )

-- so few lines are short
texts_short : (all : List (List (List ℕ))) → Each IsShort all → Each IsLine all × (length (text_of all) ≤ 100 * length all)
texts_short [] each = (tt, omega arith)
texts_short (line ∷ all) each =
    let rest = texts_short all each.1 in
    ((each.0.0, rest.0), omega (arith, rest.1, each.0.1, length-append (line_of line) (text_of all)))

each_line : (one other : List (List (List ℕ))) → Each IsLine one → Each IsLine other → Each IsLine (one ++ other)
each_line [] other a b = b
each_line (line ∷ one) other a b = (a.0, each_line one other a.1 b)

-- ---- the whole

few_lines : (number : ℕ) (g : Lcg) → length (declaration_words number g) ≤ 12
few_lines number g =
    let last : length (memory_words number) ≤ 1 = go (number % 2 == 1) in
    omega (arith, last)
  where
    go : (odd : Bool) → length (if odd then (codes "memory" ∷ codes "none" ∷ []) ∷ [] else []) ≤ 1
    go true = omega arith
    go false = omega arith

mirror_small : (g : Lcg) → mirror_size g ≤ 65536
mirror_small g = omega (arith, (stripe_some (chunk_in (behind_all 4 g)) (chunk_some (behind_all 4 g)).0 (chunk_some (behind_all 4 g)).1).1)

module _ (number : ℕ) where
  abbrev g : Lcg
  g = generator number

  writes_are : AreRight (mirror_size g) (mirror_small g) 0 (writes g)
  writes_are = runs_right (mirror_size g) (mirror_small g) (counts (mirror_size g + 1) (behind_all 6 g)) (counts_few (mirror_size g + 1) (behind_all 6 g)) 0 0 (omega arith)

  are_lines : Each IsLine (generated_lines number)
  are_lines = each_line (declaration_words number g) (writes g) (texts_short (declaration_words number g) (declarations_short number g)).0 writes_are.0

  is_short : length (generated number) ≤ most_bytes
  is_short =
      let short : length (text_of (declaration_words number g)) ≤ 100 * length (declaration_words number g) = (texts_short (declaration_words number g) (declarations_short number g)).1 in
      let rest : length (text_of (writes g)) + 28 * 0 ≤ 28 * mirror_size g = writes_are.1 in
      let whole : length (generated number) ≡ length (text_of (declaration_words number g)) + length (text_of (writes g)) =
      ap length (text_of-append (declaration_words number g) (writes g)) ∙ length-append (text_of (declaration_words number g)) (text_of (writes g)) in
      omega (arith, short, rest, whole, few_lines number g, mirror_small g)

  abbrev m0 : List ℕ
  m0 = decimal (longest_in g)

  abbrev m1 : List ℕ
  m1 = decimal (longest_in (behind_all 1 g))

  abbrev m2 : List ℕ
  m2 = decimal (longest_in (behind_all 2 g))

  abbrev m3 : List ℕ
  m3 = decimal (longest_in (behind_all 3 g))

  abbrev c0 : List ℕ
  c0 = decimal (chunk_in (behind_all 4 g))

  abbrev c1 : List ℕ
  c1 = decimal (chunk_in (behind_all 5 g))

  chunk_writes : (w : Lcg) → Writes (decimal (chunk_in w)) (chunk_in w)
  chunk_writes w = decimal_writes (chunk_in w) (omega (arith, (chunk_some w).1))

  longest_writes : (w : Lcg) → Writes (decimal (longest_in w)) (longest_in w)
  longest_writes w = decimal_writes (longest_in w) (omega (arith, (longest_some w).1))

  stripe_is : (w : Lcg) → stripe_of (decimal (chunk_in w)) ≡ stripe_size (chunk_in w)
  stripe_is w = ap stripe_size (chunk_writes w).value

  stripe_least : (w : Lcg) → 1 ≤ stripe_of (decimal (chunk_in w))
  stripe_least w = omega (arith, stripe_is w, (stripe_some (chunk_in w) (chunk_some w).0 (chunk_some w).1).0)

  top_is : min (stripe_of c0) (stripe_of c1) ≡ mirror_size g
  top_is = ap₂ min (stripe_is (behind_all 4 g)) (stripe_is (behind_all 5 g))

  nothing_before : Before m0 m1 m2 m3 c0 c1 0 []
  nothing_before = record { ends = tt; needs = omega arith }

  -- behind the declarations
  behind_declarations : (memory : Bool) (at : ℕ) → refusal all_checks (with_writes m0 m1 m2 m3 c0 c1 memory [] []) at (map body_of (writes g)) ≡ None
  behind_declarations memory at =
      writes_right m0 m1 m2 m3 c0 c1 (mirror_size g) (mirror_small g) top_is memory (counts (mirror_size g + 1) (behind_all 6 g)) (counts_few (mirror_size g + 1) (behind_all 6 g)) 0 0 at [] []
      nothing_before

  behind_mirror : refusal all_checks (k11 m0 m1 m2 m3 c0 c1) 12 (map body_of (memory_words number ++ writes g)) ≡ None
  behind_mirror = go (number % 2 == 1)
    where
      go : (odd : Bool) → refusal all_checks (k11 m0 m1 m2 m3 c0 c1) 12 (map body_of ((if odd then (codes "memory" ∷ codes "none" ∷ []) ∷ [] else []) ++ writes g)) ≡ None
      go false = behind_declarations false 12
      go true =
          one_line (k11 m0 m1 m2 m3 c0 c1) 12 (codes "memory" ∷ codes "none" ∷ []) (map body_of (writes g)) item.NoMemory
          (word_by (codes "memory") refl, (word_by (codes "none") refl, tt)) (memory m0 m1 m2 m3 c0 c1) ∙ behind_declarations true 13

  -- the declarations, one behind the other
  none_refused : refusal all_checks nothing_declared 1 (map body_of (generated_lines number)) ≡ None
  none_refused =
      let short = declarations_short number g in
      let rest = map body_of (memory_words number ++ writes g) in
      let mirror_line = codes "mirror" ∷ codes "m" ∷ codes "s0" ∷ codes "s1" ∷ [] in
      let line0 = limit_words (codes "l0") (codes "d0") (longest_in g) in
      let line1 = limit_words (codes "l1") (codes "d1") (longest_in (behind_all 1 g)) in
      let line2 = limit_words (codes "l2") (codes "d2") (longest_in (behind_all 2 g)) in
      let line3 = limit_words (codes "l3") (codes "d3") (longest_in (behind_all 3 g)) in
      let cut0 = stripe_words (codes "s0") (codes "l0") (codes "l1") (chunk_in (behind_all 4 g)) in
      let cut1 = stripe_words (codes "s1") (codes "l2") (codes "l3") (chunk_in (behind_all 5 g)) in
      let rest10 = body_of mirror_line ∷ rest in
      let rest9 = body_of cut1 ∷ rest10 in
      let rest8 = body_of cut0 ∷ rest9 in
      let rest7 = body_of line3 ∷ rest8 in
      let rest6 = body_of line2 ∷ rest7 in
      let rest5 = body_of line1 ∷ rest6 in
      let rest4 = body_of line0 ∷ rest5 in
      let rest3 = body_of (disk_words (codes "d3")) ∷ rest4 in
      let rest2 = body_of (disk_words (codes "d2")) ∷ rest3 in
      let rest1 = body_of (disk_words (codes "d1")) ∷ rest2 in
      let longest = λ (w : Lcg). (longest_some w).0 in
      let full = λ (w : Lcg). not_zero (stripe_of (decimal (chunk_in w))) (stripe_least w) in
      one_line nothing_declared 1 (disk_words (codes "d0")) rest1 (disk_item (codes "d0")) short.0.0.0 disk0
      ∙ one_line k1 2 (disk_words (codes "d1")) rest2 (disk_item (codes "d1")) short.1.0.0.0 disk1
      ∙ one_line k2 3 (disk_words (codes "d2")) rest3 (disk_item (codes "d2")) short.1.1.0.0.0 disk2
      ∙ one_line k3 4 (disk_words (codes "d3")) rest4 (disk_item (codes "d3")) short.1.1.1.0.0.0 disk3
      ∙ one_line k4 5 line0 rest5 (limit_item (codes "l0") (codes "d0") m0) short.1.1.1.1.0.0.0 (limit0 m0 m1 m2 m3 c0 c1 (longest_in g) (longest_writes g) (longest g))
      ∙ one_line (k5 m0 m1 m2 m3 c0 c1) 6 line1 rest6 (limit_item (codes "l1") (codes "d1") m1) short.1.1.1.1.1.0.0.0 (limit1 m0 m1 m2 m3 c0 c1 (longest_in (behind_all 1 g)) (longest_writes (behind_all 1 g)) (longest (behind_all 1 g)))
      ∙ one_line (k6 m0 m1 m2 m3 c0 c1) 7 line2 rest7 (limit_item (codes "l2") (codes "d2") m2) short.1.1.1.1.1.1.0.0.0 (limit2 m0 m1 m2 m3 c0 c1 (longest_in (behind_all 2 g)) (longest_writes (behind_all 2 g)) (longest (behind_all 2 g)))
      ∙ one_line (k7 m0 m1 m2 m3 c0 c1) 8 line3 rest8 (limit_item (codes "l3") (codes "d3") m3) short.1.1.1.1.1.1.1.0.0.0 (limit3 m0 m1 m2 m3 c0 c1 (longest_in (behind_all 3 g)) (longest_writes (behind_all 3 g)) (longest (behind_all 3 g)))
      ∙ one_line (k8 m0 m1 m2 m3 c0 c1) 9 cut0 rest9 (stripe_item (codes "s0") (codes "l0") (codes "l1") c0) short.1.1.1.1.1.1.1.1.0.0.0 (stripe0 m0 m1 m2 m3 c0 c1 (chunk_in (behind_all 4 g)) (chunk_writes (behind_all 4 g)) (chunk_some (behind_all 4 g)).0 (full (behind_all 4 g)))
      ∙ one_line (k9 m0 m1 m2 m3 c0 c1) 10 cut1 rest10 (stripe_item (codes "s1") (codes "l2") (codes "l3") c1) short.1.1.1.1.1.1.1.1.1.0.0.0 (stripe1 m0 m1 m2 m3 c0 c1 (chunk_in (behind_all 5 g)) (chunk_writes (behind_all 5 g)) (chunk_some (behind_all 5 g)).0 (full (behind_all 5 g)))
      ∙ one_line (k10 m0 m1 m2 m3 c0 c1) 11 mirror_line rest mirror_item short.1.1.1.1.1.1.1.1.1.1.0.0.0 (mirror m0 m1 m2 m3 c0 c1 (not_zero (min (stripe_of c0) (stripe_of c1)) (omega (arith, stripe_least (behind_all 4 g), stripe_least (behind_all 5 g)))))
      ∙ behind_mirror

pub never_refused : NoGeneratedTextIsRefused
never_refused number =
    ap (λ long. if long then Some (refused 0 TooLong) else refusal all_checks nothing_declared 1 (lines (generated number))) (le-ltb most_bytes (length (generated number)) (is_short number))
    ∙ ap (refusal all_checks nothing_declared 1) (text_lines (generated_lines number) (are_lines number)) ∙ none_refused number
