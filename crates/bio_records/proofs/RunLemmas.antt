-- Lists over a range, and the sectors of a bio that is split.
use Rattle.std.proofs.Common.{◌≡◌, ℕ, zero, suc, ◌+◌, ◌-◌, ◌*◌, ◌%◌, ◌^◌, ◌∷◌, ◌++◌, map, refl, sym, ap, ◌∙◌, arith, add-zero, zero-add}
use Rattle.std.specs.List.{range_with_len}
use Rattle.std.proofs.Math.Nat.{mod-add-mod}
use Rattle.bio_records.specs.declared.bio.Bio.{Bio}
use Rattle.bio_records.specs.Runs.{FrontAndRestAreTheRun, place_number, place_at, advanced, sector_at}

-- what two functions make of as many numbers, where they agree place by place
pub map_moved : {X : Type 0} (f g : ℕ → X) (a b n : ℕ) → ((j : ℕ) → f (a + j) ≡ g (b + j)) → map f (range_with_len a n) ≡ map g (range_with_len b n)
map_moved f g a b zero same = refl
map_moved f g a b (suc n) same =
    let here : f a ≡ g b = rw (add-zero a, add-zero b) at (same 0) in
    let left : (j : ℕ) → a + 1 + j ≡ a + (j + 1) = λ j. omega arith in
    let right : (j : ℕ) → b + 1 + j ≡ b + (j + 1) = λ j. omega arith in
    let on : (j : ℕ) → f (a + 1 + j) ≡ g (b + 1 + j) = λ j. rw (left j, right j) (same (j + 1)) in
    let rest : map f (range_with_len (a + 1) n) ≡ map g (range_with_len (b + 1) n) = map_moved f g (a + 1) (b + 1) n on in
    cc

-- what a function makes of a range in two parts
pub map_joined : {X : Type 0} (f : ℕ → X) (a m n : ℕ) → map f (range_with_len a (m + n)) ≡ map f (range_with_len a m) ++ map f (range_with_len (a + m) n)
map_joined f a zero n = rw (zero-add, add-zero) refl
map_joined f a (suc m) n =
    let one : suc m + n ≡ suc (m + n) = omega arith in
    let on : a + 1 + m ≡ a + suc m = omega arith in
    rw one (ap (λ rest. f a ∷ rest) (map_joined f (a + 1) m n ∙ ap (λ b. map f (range_with_len (a + 1) m) ++ map f (range_with_len b n)) on))

-- the same, where the second part begins at b and both have k numbers
pub map_parts : {X : Type 0} (f : ℕ → X) (a m n b k : ℕ) → a + m ≡ b → m + n ≡ k
    → map f (range_with_len a m) ++ map f (range_with_len b n) ≡ map f (range_with_len a k)
map_parts f a m n b k on whole = rw (← on, ← whole) (sym (map_joined f a m n))

-- a number modulo m, and more, modulo m
added : (a b c d m : ℕ) → a + b + c ≡ d → ((a + b) % m + c) % m ≡ d % m
added a b c d m whole = mod-add-mod (a + b) m c ∙ ap (λ n. n % m) whole

-- the number of a place is the place's
pub number_of_place : (n : ℕ) → place_number (place_at n) ≡ n
number_of_place n = omega arith

-- the places of the rest are those of the whole from there on
place_on : (p n j : ℕ) → (place_number (place_at ((p + n) % 2 ^ 35)) + (0 + j)) % 2 ^ 35 ≡ (p + (n + j)) % 2 ^ 35
place_on p n j = ap (λ q. (q + (0 + j)) % 2 ^ 35) (number_of_place ((p + n) % 2 ^ 35)) ∙ added p n (0 + j) (p + (n + j)) (2 ^ 35) (omega arith)

-- the data of the rest are those of the whole from there on
word_on : (w n j : ℕ) → ((w + 64 * n) % 2 ^ 64 + 64 * (0 + j)) % 2 ^ 64 ≡ (w + 64 * (n + j)) % 2 ^ 64
word_on w n j = added w (64 * n) (64 * (0 + j)) (w + 64 * (n + j)) (2 ^ 64) (omega arith)

-- and so are its sectors
advanced_sector : (bio : Bio) (n j : ℕ) → sector_at (advanced bio n) (0 + j) ≡ sector_at bio (n + j)
advanced_sector bio n j =
    let at : bio.range.start + n + (0 + j) ≡ bio.range.start + (n + j) = omega arith in
    λ k. record { at = at k; word = word_on bio.word n j k; place = place_on (place_number bio.at) n j k }

-- the sectors of a bio that is split are those of its front and then those of the rest
pub front_and_rest_are_the_run : FrontAndRestAreTheRun
front_and_rest_are_the_run bio n within =
    let rest = map_moved (λ j. sector_at (advanced bio n) j) (λ j. sector_at bio j) 0 n (bio.range.len - n) (λ j. advanced_sector bio n j) in
    ap (λ sectors. map (λ j. sector_at bio j) (range_with_len 0 n) ++ sectors) rest
    ∙ map_parts (λ j. sector_at bio j) 0 n (bio.range.len - n) n bio.range.len (omega arith) (omega arith)
