-- Words that come behind others, with zeros before and behind them.
use Rattle.std.proofs.Common.{◌≡◌, ◌+◌, ◌-◌, ◌*◌, ◌≤◌, ◌++◌, ◌%◌, ◌^◌, ℕ, List, length, drop, replicate, sym, ap, ◌∙◌, arith, length-append}
use Rattle.std.proofs.lemmas.List.{append_assoc, append-nil, take_at, drop-replicate}
use Rattle.std.proofs.Math.Seq.{drop-append-add}
use Rattle.image_lanes.specs.Lanes.{counting}
use Rattle.image_lanes.proofs.CountingLemmas.{length_counting, counting_mod, counting_on}
use Rattle.model_disks.specs.Kept.{grown}
use Rattle.model_disks.specs.Paged.{put_words}
use Rattle.model_disks.proofs.GrownLemmas.{grown_twice, length_grown}

-- a list that grows from one size on
grown_behind : (size len : ℕ) (xs : List ℕ) → length xs ≡ len → grown 0 size xs ≡ xs ++ replicate (size - len) 0
unfolding grown
grown_behind size len xs long = ap (λ k. xs ++ replicate (size - k) 0) long

-- words that were put between zeros are those that were put in the place of zeros
pub put_in_grown : (from count size first : ℕ) (xs : List ℕ) → length xs ≤ from → from + count ≤ size
    → grown 0 size (grown 0 from xs ++ counting first count) ≡ put_words from count first (grown 0 size xs)
put_in_grown from count size first xs short fits =
    let front = grown 0 from xs in
    let own = counting first count in
    let rest : List ℕ = replicate (size - from) 0 in
    let long : length front ≡ from = omega (arith, short, length_grown 0 from xs) in
    let both : length (front ++ own) ≡ from + count = omega (arith, long, length-append front own, length_counting first count) in
    let all : grown 0 size xs ≡ front ++ rest = sym (grown_twice 0 size from xs (omega (arith, fits))) ∙ grown_behind size from front long in
    let left : size - (from + count) ≡ size - from - count = omega arith in
    let behind : drop (from + count) (front ++ rest) ≡ replicate (size - from - count) 0 =
    ap (λ n. drop (n + count) (front ++ rest)) (sym long) ∙ drop-append-add front rest count ∙ drop-replicate count (size - from) 0 in
    grown_behind size (from + count) (front ++ own) both
    ∙ ap (λ k. (front ++ own) ++ replicate k 0) left
    ∙ append_assoc front own (replicate (size - from - count) 0)
    ∙ sym (ap (put_words from count first) all
    ∙ ap (λ fs. fs ++ (own ++ drop (from + count) (front ++ rest))) (take_at front rest from long)
    ∙ ap (λ bs. front ++ (own ++ bs)) behind)

-- no word
pub appended_none : (words : List ℕ) (first : ℕ) → words ≡ words ++ counting first 0
unfolding counting
appended_none words first = sym (append-nil words)

-- one more sector
pub appended_more : (words : List ℕ) (first place : ℕ)
    → (words ++ counting first (64 * place)) ++ counting ((first + 64 * place) % 2 ^ 64) 64 ≡ words ++ counting first (64 * (place + 1))
appended_more words first place =
    let parts : 64 * place + 64 ≡ 64 * (place + 1) = omega arith in
    append_assoc words (counting first (64 * place)) (counting ((first + 64 * place) % 2 ^ 64) 64)
    ∙ ap (λ more. words ++ (counting first (64 * place) ++ more)) (counting_mod (first + 64 * place) 64)
    ∙ ap (λ own. words ++ own) (counting_on first (64 * place) 64 ∙ ap (counting first) parts)
