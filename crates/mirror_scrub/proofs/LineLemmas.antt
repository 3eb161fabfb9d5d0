-- Lines, one after the other.
use Rattle.std.proofs.Common.{◌≡◌, ◌+◌, ◌-◌, ◌<◌, ◌≤◌, ℕ, suc, List, [], ◌∷◌, sym, ap, ◌∙◌, subst, arith}
use Rattle.std.specs.List.{flat_map, range_with_len}
use Rattle.std.proofs.lemmas.List.Concat.{flat_map-cons}
use Rattle.stack_base.specs.declared.ids.Range.{Range}
use Rattle.outside_io.specs.declared.sink.Sink.{Ghosts as SinkGhosts}
use Rattle.outside_io.specs.Saying.{PenState, Says}
use Rattle.outside_io.proofs.SaysLemmas.{says_then, says_silence}
use Rattle.mirror_scrub.specs.Text.{differ_line, differ_lines}

-- the line of the first stretch, and then those of the others
pub stretches_on : {K : Type 0} {sink : SinkGhosts K} {a b c : K} {was mid is : PenState} (name : List ℕ) (leg : ℕ) (run : Range) (all rest : List Range) → all ≡ run ∷ rest
    → Says sink a was b mid (differ_line name leg run) → Says sink b mid c is (differ_lines name leg rest) → Says sink a was c is (differ_lines name leg all)
unfolding differ_lines
stretches_on {sink = sink} {a} {c = c} {was} {is = is} name leg run all rest first here others =
    subst (Says sink a was c is) (sym (flat_map-cons (differ_line name leg) run rest) ∙ ap (differ_lines name leg) (sym first)) (says_then here others)

-- no stretch has no line
pub stretches_end : {K : Type 0} (sink : SinkGhosts K) (a : K) (was : PenState) (name : List ℕ) (leg : ℕ) (all : List Range) → all ≡ []
    → Says sink a was a was (differ_lines name leg all)
unfolding differ_lines
stretches_end sink a was name leg all none = subst (λ runs. Says sink a was a was (differ_lines name leg runs)) (sym none) (says_silence sink a was)

-- the lines of the number a, and then those of the numbers behind it, up to n
pub numbers_on : {K : Type 0} {sink : SinkGhosts K} {b c d : K} {was mid is : PenState} (text : ℕ → List ℕ) (a n : ℕ) → a < n
    → Says sink b was c mid (text a) → Says sink c mid d is (flat_map text (range_with_len (a + 1) (n - (a + 1))))
    → Says sink b was d is (flat_map text (range_with_len a (n - a)))
numbers_on {sink = sink} {b} {d = d} {was} {is = is} text a n lt here others =
    let one : n - a ≡ suc (n - (a + 1)) = omega (arith, lt) in
    subst (Says sink b was d is)
    (sym (flat_map-cons text a (range_with_len (a + 1) (n - (a + 1)))) ∙ ap (λ (k : ℕ). flat_map text (range_with_len a k)) (sym one)) (says_then here others)

-- behind the last of them there is no line
pub numbers_end : {K : Type 0} (sink : SinkGhosts K) (b : K) (was : PenState) (text : ℕ → List ℕ) (a n : ℕ) → n ≤ a
    → Says sink b was b was (flat_map text (range_with_len a (n - a)))
numbers_end sink b was text a n past =
    let none : n - a ≡ 0 = omega (arith, past) in
    subst (λ (k : ℕ). Says sink b was b was (flat_map text (range_with_len a k))) (sym none) (says_silence sink b was)
