-- Lists that grow.
use Rattle.std.proofs.Common.{◌≡◌, ◌+◌, ◌-◌, ◌≤◌, ◌++◌, ℕ, List, length, take, drop, replicate, refl, ap, ◌∙◌, arith, length-append}
use Rattle.std.proofs.lemmas.List.{length-replicate, replicate-append-replicate, append_assoc, append-nil, take_all, drop_all}
use Rattle.model_disks.specs.Kept.{grown}

pub length_grown : {X : Type 0} (none : X) (size : ℕ) (xs : List X) → length (grown none size xs) ≡ length xs + (size - length xs)
unfolding grown
length_grown none size xs = omega (arith, length-append xs (replicate (size - length xs) none), length-replicate (size - length xs) none)

-- a list that is as long already stays as it is
pub grown_enough : {X : Type 0} (none : X) (size : ℕ) (xs : List X) → size ≤ length xs → xs ≡ grown none size xs
unfolding grown
grown_enough none size xs enough =
    let no_more : size - length xs ≡ 0 = omega arith in
    rw (no_more, append-nil) refl

-- another one is kept, with so many more behind it
pub grown_from : {X : Type 0} (none : X) (size len : ℕ) (xs new : List X) → len ≡ length xs → len ≤ size
    → new ≡ take size xs ++ replicate (size - len) none → new ≡ grown none size xs
unfolding grown
grown_from none size len xs new is more made =
    made ∙ ap (λ front. front ++ replicate (size - len) none) (take_all size xs (omega (arith, is, more))) ∙ ap (λ k. xs ++ replicate (size - k) none) is

-- to grow twice is to grow once
pub grown_twice : {X : Type 0} (none : X) (all size : ℕ) (xs : List X) → size ≤ all → grown none all (grown none size xs) ≡ grown none all xs
unfolding grown
grown_twice none all size xs fits =
    let more = size - length xs in
    let front = xs ++ replicate more none in
    let rest : all - length front ≡ all - length xs - more = omega (arith, length-append xs (replicate more none), length-replicate more none) in
    let whole : more + (all - length xs - more) ≡ all - length xs = omega arith in
    ap (λ k. front ++ replicate k none) rest
    ∙ append_assoc xs (replicate more none) (replicate (all - length xs - more) none)
    ∙ ap (λ others. xs ++ others)
    (replicate-append-replicate more (all - length xs - more) none ∙ ap (λ k. replicate k none) whole)

-- a list that was put_words in the place of one of the same length
pub kept_whole : {X : Type 0} (old new : List X) (len : ℕ) → len ≡ length old → length new ≡ length old → take len (new ++ drop (length new) old) ≡ new
kept_whole old new len is same = rw (drop_all (length new) old (omega (arith, same)), append-nil) (take_all len new (omega (arith, is, same)))
