-- The texts of lines, one behind the other.
use Rattle.std.proofs.Common.{◌≡◌, ◌∙◌, ◌+◌, ◌≤◌, ◌<◌, ℕ, suc, List, [], ◌∷◌, ◌++◌, false, refl, sym, ap, ap₂, codes, append_assoc, append-nil, arith}
use Rattle.std.specs.Prelude.{if◌then◌else◌}
use Rattle.std.proofs.lemmas.Bool.{le-leb}
use Rattle.std.proofs.lemmas.Bool.Decides.{nat_tests}
use Rattle.std.proofs.Math.Dec.{leb}
use Rattle.rand_pcg.specs.Lcg.{Lcg}
use Rattle.work_text.specs.Generated.{behind, behind_all, chunk_in, counts, declaration_words, generated, generator, limit_words, line_of, longest_in, memory_words, mirror_size, runs, stripe_words, text_of, write_words, writes, words_of_runs}

pub one_write : (text now whole : List ℕ) (sectors number start count left : ℕ) (words : Lcg) → start + count ≤ sectors
    → now ≡ text ++ line_of (write_words number (record { start = start; count = count }))
    → text ++ text_of (words_of_runs number (runs sectors start (count ∷ counts (suc left) words))) ≡ whole
    → now ++ text_of (words_of_runs (number + 1) (runs sectors (start + count) (counts (suc left) words))) ≡ whole
one_write text now whole sectors number start count left words fits is all =
    let more = runs sectors (start + count) (counts (suc left) words) in
    let said : text ++ text_of (words_of_runs number (record { start = start; count = count } ∷ more)) ≡ whole =
    ap (λ b. text ++ text_of (words_of_runs number (if b then record { start = start; count = count } ∷ more else []))) (sym (le-leb (start + count) sectors fits)) ∙ all in
    ap (λ front. front ++ text_of (words_of_runs (number + 1) more)) is
    ∙ append_assoc text (line_of (write_words number (record { start = start; count = count }))) (text_of (words_of_runs (number + 1) more)) ∙ said

lt-leb : (a b : ℕ) → b < a → leb a b ≡ false
lt-leb a b lt = grind (arith, nat_tests)

pub no_write : (text whole : List ℕ) (sectors number start count : ℕ) (more : List ℕ) → sectors < start + count
    → text ++ text_of (words_of_runs number (runs sectors start (count ∷ more))) ≡ whole → text ≡ whole
no_write text whole sectors number start count more past all =
    sym (append-nil text)
    ∙ ap (λ b. text ++ text_of (words_of_runs number (if b then record { start = start; count = count } ∷ runs sectors (start + count) more else []))) (sym (lt-leb (start + count) sectors past))
    ∙ all

-- a text, and then one behind it
pub onward : (before between after first rest : List ℕ) → between ≡ before ++ first → after ≡ between ++ rest → after ≡ before ++ (first ++ rest)
onward before between after first rest one two = two ∙ ap (λ front. front ++ rest) one ∙ append_assoc before first rest

pub text_of-append : (one other : List (List (List ℕ))) → text_of (one ++ other) ≡ text_of one ++ text_of other
text_of-append [] other = refl
text_of-append (line ∷ one) other = ap (λ rest. line_of line ++ rest) (text_of-append one other) ∙ sym (append_assoc (line_of line) (text_of one) (text_of other))

abbrev disk_text : List ℕ
disk_text = codes "disk d0 32768\ndisk d1 32768\ndisk d2 32768\ndisk d3 32768\n"

abbrev limit_text : List ℕ → List ℕ → Lcg → List ℕ
limit_text name disk g = line_of (limit_words name disk (longest_in g))

abbrev stripe_text : List ℕ → List ℕ → List ℕ → Lcg → List ℕ
stripe_text name first second g = line_of (stripe_words name first second (chunk_in g))

-- the declarations, line behind line, each with the words that come next
pub declared_text : (t0 t1 t2 t3 t4 t5 t6 t7 t8 t9 : List ℕ) (number : ℕ) (w0 w1 w2 w3 w4 w5 : Lcg)
    → w1 ≡ behind w0 → w2 ≡ behind w1 → w3 ≡ behind w2 → w4 ≡ behind w3 → w5 ≡ behind w4
    → t1 ≡ t0 ++ disk_text
    → t2 ≡ t1 ++ limit_text (codes "l0") (codes "d0") w0
    → t3 ≡ t2 ++ limit_text (codes "l1") (codes "d1") w1
    → t4 ≡ t3 ++ limit_text (codes "l2") (codes "d2") w2
    → t5 ≡ t4 ++ limit_text (codes "l3") (codes "d3") w3
    → t6 ≡ t5 ++ stripe_text (codes "s0") (codes "l0") (codes "l1") w4
    → t7 ≡ t6 ++ stripe_text (codes "s1") (codes "l2") (codes "l3") w5
    → t8 ≡ t7 ++ codes "mirror m s0 s1\n"
    → t9 ≡ t8 ++ text_of (memory_words number)
    → t9 ≡ t0 ++ text_of (declaration_words number w0)
declared_text t0 t1 t2 t3 t4 t5 t6 t7 t8 t9 number w0 w1 w2 w3 w4 w5 e1 e2 e3 e4 e5 a1 a2 a3 a4 a5 a6 a7 a8 a9 =
    let two : w2 ≡ behind (behind w0) = e2 ∙ ap behind e1 in
    let three : w3 ≡ behind (behind (behind w0)) = e3 ∙ ap behind two in
    let four : w4 ≡ behind (behind (behind (behind w0))) = e4 ∙ ap behind three in
    let five : w5 ≡ behind (behind (behind (behind (behind w0)))) = e5 ∙ ap behind four in
    let r8 : t9 ≡ t7 ++ (codes "mirror m s0 s1\n" ++ text_of (memory_words number)) = onward t7 t8 t9 (codes "mirror m s0 s1\n") (text_of (memory_words number)) a8 a9 in
    let r7 = onward t6 t7 t9 _ (codes "mirror m s0 s1\n" ++ text_of (memory_words number)) (a7 ∙ ap (λ g. t6 ++ stripe_text (codes "s1") (codes "l2") (codes "l3") g) five) r8 in
    let r6 = onward t5 t6 t9 _ _ (a6 ∙ ap (λ g. t5 ++ stripe_text (codes "s0") (codes "l0") (codes "l1") g) four) r7 in
    let r5 = onward t4 t5 t9 _ _ (a5 ∙ ap (λ g. t4 ++ limit_text (codes "l3") (codes "d3") g) three) r6 in
    let r4 = onward t3 t4 t9 _ _ (a4 ∙ ap (λ g. t3 ++ limit_text (codes "l2") (codes "d2") g) two) r5 in
    let r3 = onward t2 t3 t9 _ _ (a3 ∙ ap (λ g. t2 ++ limit_text (codes "l1") (codes "d1") g) e1) r4 in
    let r2 = onward t1 t2 t9 _ _ a2 r3 in
    onward t0 t1 t9 _ _ a1 r2

-- the whole
pub whole_text : (front text : List ℕ) (number sectors : ℕ) (words : Lcg) → front ≡ [] ++ text_of (declaration_words number (generator number))
    → words ≡ behind_all 6 (generator number) → sectors ≡ mirror_size (generator number)
    → text ≡ front ++ text_of (words_of_runs 0 (runs sectors 0 (counts (sectors + 1) words))) → text ≡ generated number
whole_text front text number sectors words front_is words_are sectors_are text_is =
    text_is
    ∙ ap₂ (λ f (cs : List (List (List ℕ))). f ++ text_of cs) front_is
    (ap₂ (λ s g. words_of_runs 0 (runs s 0 (counts (s + 1) g))) sectors_are words_are)
    ∙ sym (text_of-append (declaration_words number (generator number)) (writes (generator number)))
