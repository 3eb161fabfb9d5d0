-- Rounds are counted, and duties are told round by round.
use Rattle.std.proofs.Common.{◌≡◌, ◌≢◌, ◌+◌, ◌<◌, ◌≤◌, ◌==◌, ◌++◌, ℕ, zero, suc, true, cond, List, [], ◌∷◌, length, map, take, get_or, max, replicate, set, refl, sym, ap, subst, ◌∙◌, arith}
use Rattle.std.specs.Prelude.{fold, nat_le, sum, sum_by}
use Rattle.std.specs.List.{flat_map, range_with_len}
use Rattle.std.proofs.lemmas.Bool.Decides.{nat_tests}
use Rattle.std.proofs.lemmas.Grind.{flat_map-append}
use Rattle.std.proofs.lemmas.List.{append-nil, map-id}
use Rattle.std.proofs.lemmas.List.Filters.{length-filter_more}
use Rattle.std.proofs.lemmas.List.FromFn.{get_or-map-range_with_len, map-range_with_len_more}
use Rattle.std.proofs.lemmas.List.Sums.{get_or-le-sum_by, sum_by-set}
use Rattle.std.proofs.lemmas.Bool.{eq-eqb, ne_eqb}
use Rattle.stack_base.proofs.Zones.{fold_max_start}
use Rattle.run_machine.specs.Opened.{in_round, from_round, rounds_in, left_in, starts_at, duties_in, Change}

-- nothing is counted yet
pub none_counted : (a n : ℕ) → replicate n 0 ≡ map (in_round []) (range_with_len a n)
none_counted a zero = refl
none_counted a (suc n) = ap (λ xs. 0 ∷ xs) (none_counted (a + 1) n)

pub sum_none : (n : ℕ) → sum (replicate n 0) ≡ 0
sum_none zero = refl
sum_none (suc n) = sum_none n

-- one number changes
same_ahead : (f g : ℕ → ℕ) (a n : ℕ) → ((k : ℕ) → a ≤ k → f k ≡ g k) → map f (range_with_len a n) ≡ map g (range_with_len a n)
same_ahead f g a zero same = refl
same_ahead f g a (suc n) same =
    ap (λ x. x ∷ map f (range_with_len (a + 1) n)) (same a (omega arith))
    ∙ ap (λ xs. g a ∷ xs) (same_ahead f g (a + 1) n (λ k le. same k (omega (arith, le))))

set_counted : (f g : ℕ → ℕ) (a n r y : ℕ) → r < n → g (a + r) ≡ y → ((k : ℕ) → k ≢ a + r → f k ≡ g k)
    → set (map f (range_with_len a n)) r y ≡ map g (range_with_len a n)
set_counted f g a zero r y lt own other = absurd (omega (arith, lt))
set_counted f g a (suc n) zero y lt own other =
    let here : a + 0 ≡ a = omega arith in
    ap (λ x. x ∷ map f (range_with_len (a + 1) n)) (sym own ∙ ap g here)
    ∙ ap (λ xs. g a ∷ xs) (same_ahead f g (a + 1) n (λ k le. other k (λ e. absurd (omega (arith, le, e)))))
set_counted f g a (suc n) (suc r) y lt own other =
    let there : (a + 1) + r ≡ a + suc r = omega arith in
    ap (λ x. x ∷ set (map f (range_with_len (a + 1) n)) r y) (other a (λ e. absurd (omega (arith, e))))
    ∙ ap (λ xs. g a ∷ xs) (set_counted f g (a + 1) n r y (omega (arith, lt)) (ap g there ∙ own) (λ k apart. other k (λ e. apart (e ∙ sym there))))

pub counted_more : (rounds : List ℕ) (i n round old d : ℕ) → i < length rounds → round ≡ get_or rounds i d → round < n
    → old ≡ in_round (take i rounds) round → set (map (in_round (take i rounds)) (range_with_len 0 n)) round (old + 1) ≡ map (in_round (take (i + 1) rounds)) (range_with_len 0 n)
counted_more rounds i n round old d lt is inside had =
    set_counted (in_round (take i rounds)) (in_round (take (i + 1) rounds)) 0 n round (old + 1) inside own other
  where
    more : (k : ℕ) → in_round (take (i + 1) rounds) k ≡ in_round (take i rounds) k + cond (round == k) 1 0
    more k = length-filter_more (λ r. r == k) rounds i d lt ∙ ap (λ r. in_round (take i rounds) k + cond (r == k) 1 0) (sym is)

    itself : in_round (take (i + 1) rounds) round ≡ old + 1
    itself = let same = eq-eqb round round refl in more round ∙ ap (λ b. in_round (take i rounds) round + cond b 1 0) same ∙ ap (λ n. n + 1) (sym had)

    own : in_round (take (i + 1) rounds) (0 + round) ≡ old + 1
    own = let none : 0 + round ≡ round = omega arith in ap (in_round (take (i + 1) rounds)) none ∙ itself

    other : (k : ℕ) → k ≢ 0 + round → in_round (take i rounds) k ≡ in_round (take (i + 1) rounds) k
    other k apart =
        let away : round ≢ k = λ e. apart (omega (arith, e)) in
        let differs = ne_eqb round k away in
        let none : in_round (take i rounds) k + 0 ≡ in_round (take i rounds) k = omega arith in
        sym (more k ∙ ap (λ b. in_round (take i rounds) k + cond b 1 0) differs ∙ none)

-- a round is no greater than the greatest
pub round_inside : (c : ℕ) (rounds : List ℕ) (i d : ℕ) → i < length rounds → get_or rounds i d ≤ fold max c rounds
round_inside c [] i d lt = absurd (omega (arith, lt))
round_inside c (round ∷ rounds) zero d lt = let le = fold_max_start (max c round) rounds in omega (arith, le)
round_inside c (round ∷ rounds) (suc i) d lt = round_inside (max c round) rounds i d (omega (arith, lt))

-- all writes are those of the first round and later ones
pub from_first : (rounds : List ℕ) → length rounds ≡ from_round rounds 0
from_first [] = refl
from_first (r ∷ rounds) = let all = is_le r in rw (all) (ap suc (from_first rounds))
  where
    is_le : (r : ℕ) → nat_le 0 r ≡ true
    is_le r = grind (arith, nat_tests)

-- what is left of a round
pub left_at : (rounds left : List ℕ) (round d : ℕ) → left ≡ left_in rounds → round < rounds_in rounds → get_or left round d ≡ in_round rounds round
left_at rounds left round d is lt =
    ap (λ xs. get_or xs round d) is ∙ get_or-map-range_with_len (in_round rounds) 0 (rounds_in rounds) round round d lt (omega arith)

-- one more round
pub duties_more : (rounds : List ℕ) (changes : List Change) (passed : ℕ)
    → duties_in rounds changes (passed + 1) ≡ duties_in rounds changes passed ++ starts_at rounds changes (passed + 1)
duties_more rounds changes passed =
    let next : 1 + passed ≡ passed + 1 = omega arith in
    ap (flat_map (starts_at rounds changes))
    (sym (map-id (range_with_len 1 (passed + 1))) ∙ map-range_with_len_more (λ i. i) 1 passed (passed + 1) next
    ∙ ap (λ xs. xs ++ (passed + 1) ∷ []) (map-id (range_with_len 1 passed)))
    ∙ flat_map-append (starts_at rounds changes) (range_with_len 1 passed) ((passed + 1) ∷ [])
    ∙ ap (λ ys. duties_in rounds changes passed ++ ys) (append-nil (starts_at rounds changes (passed + 1)))

-- how many were counted of a round before
pub had_count : (rounds left : List ℕ) (i n round value : ℕ) → left ≡ map (in_round (take i rounds)) (range_with_len 0 n) → round < n
    → value ≡ get_or left round value → value ≡ in_round (take i rounds) round
had_count rounds left i n round value is lt value_is =
    let none : 0 + round ≡ round = omega arith in
    value_is ∙ ap (λ xs. get_or xs round value) is ∙ get_or-map-range_with_len (in_round (take i rounds)) 0 n round round value lt none

-- one number of a list is one more
pub sum_more : (xs : List ℕ) (i value : ℕ) → i < length xs → value ≡ get_or xs i value → sum (set xs i (value + 1)) ≡ sum xs + 1
sum_more xs i value lt value_is =
    let changed = sum_by-set (λ x. x) xs i (value + 1) value lt in
    let own : get_or xs i value ≡ value = sym value_is in
    let left : sum_by (λ x. x) (set xs i (value + 1)) + value ≡ sum_by (λ x. x) xs + (value + 1) = subst (λ v. sum_by (λ x. x) (set xs i (value + 1)) + v ≡ sum_by (λ x. x) xs + (value + 1)) own changed in
    omega (arith, left)

-- no number of a list is more than all
pub entry_le : (xs : List ℕ) (i value : ℕ) → i < length xs → value ≡ get_or xs i value → value ≤ sum xs
entry_le xs i value lt value_is = let le = get_or-le-sum_by (λ x. x) xs i value lt in omega (arith, le, value_is)
