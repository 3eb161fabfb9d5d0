-- Stripes and zones over members of one size.
use Rattle.std.proofs.Common.{◌≡◌, ℕ, zero, suc, ◌+◌, ◌*◌, ◌/◌, ◌%◌, ◌<◌, ◌≤◌, min, Bool, true, ◌∷◌, length, replicate, sum, refl, ap, ◌∙◌, sym, arith}
use Rattle.std.specs.Prelude.{nat_lt, slice_index}
use Rattle.std.proofs.lemmas.Bool.{lt-ltb}
use Rattle.std.proofs.lemmas.List.{length-replicate, get_or-replicate}
use Rattle.std.proofs.lemmas.List.Folds.{sum_by-replicate}
use Rattle.std.proofs.lemmas.Nat.{div_below, div-mul-add, mod-mul-add}
use Rattle.std.proofs.Math.Nat.{mul_comm, mul_assoc, suc-mul}
use Rattle.stack_base.specs.Mapping.{Slot, size_of, slot, head, smallest, whole_chunks, zones, in_zones}
use Rattle.stack_base.specs.Even.{StripesGoBySmallest, EvenZonesAreStripes}
use Rattle.stack_base.proofs.Passing.{passing, passing-yes}
use Rattle.stack_base.proofs.Smallest.{smallest-replicate}
use Rattle.stack_base.proofs.Zones.{sum_from, chunk_forward}

-- the whole chunks of members of one size
even_chunks : (chunk n size : ℕ) → whole_chunks chunk (replicate n size) ≡ replicate n (size / chunk)
even_chunks chunk zero size = refl
even_chunks chunk (suc n) size = ap (λ rest. size / chunk ∷ rest) (even_chunks chunk n size)

-- equal values have the sum of one, once for each
even_total : (f : ℕ → ℕ) (x a n : ℕ) → ((i : ℕ) → a ≤ i → i < a + n → f i ≡ x) → sum_from f a n ≡ n * x
even_total f x a zero same = omega arith
even_total f x a (suc n) same =
    omega (arith, same a (omega arith) (omega arith), even_total f x (a + 1) n (λ i le lt. same i (omega arith) (omega arith)), suc-mul n x)

-- where each number of a range passes, there are as many as numbers
all_pass : (test : ℕ → Bool) (a n : ℕ) → ((i : ℕ) → a ≤ i → i < a + n → test i ≡ true) → length (passing test a n) ≡ n
all_pass test a zero passes = refl
all_pass test a (suc n) passes =
    ap length (passing-yes test a n (passes a (omega arith) (omega arith)))
    ∙ ap suc (all_pass test (a + 1) n (λ i le lt. passes i (omega arith) (omega arith)))

-- a chunk of equal members is where the stripe has it
even_place :
    (n q e : ℕ) → e < n * q → in_zones (zones (replicate n q)) e ≡ record { member = e % n; at = e / n }
even_place n q e lt =
    let counts = replicate n q in
    let f = slice_index counts in
    let many : length counts ≡ n = length-replicate n q in
    let there = chunk_forward counts e (omega (arith, sum_by-replicate (λ x. x) n q)) in
    let to = in_zones (zones counts) e in
    let each : (i : ℕ) → i < n → f i ≡ q = λ i below. get_or-replicate n i q 0 below in
    let low : to.at < q = omega (arith, there.at, each to.member (omega (arith, there.member))) in
    let earlier : sum_from (λ i. min (f i) to.at) 0 (length counts) ≡ length counts * to.at =
    even_total (λ i. min (f i) to.at) to.at 0 (length counts) (λ i le below. omega (arith, each i (omega arith))) in
    let beside : length (passing (λ i. nat_lt to.at (f i)) 0 to.member) ≡ to.member =
    all_pass (λ i. nat_lt to.at (f i)) 0 to.member (λ i le below. lt-ltb to.at (f i) (omega (arith, each i (omega (arith, there.member))))) in
    let numbered : e ≡ to.at * n + to.member =
    omega (arith, there.numbered, earlier, beside, ap (λ x. x * to.at) many, mul_comm n to.at) in
    let within : to.member < n = omega (arith, there.member) in
    let member : to.member ≡ e % n = sym (ap (λ x. x % n) numbered ∙ mod-mul-add to.at n to.member within) in
    let at : to.at ≡ e / n = sym (ap (λ x. x / n) numbered ∙ div-mul-add to.at n to.member within) in
    λ i. record { member = member i; at = at i }

-- the smallest of equal sizes, where there are any, is each of them
even_smallest : (n size chunk : ℕ) → n * chunk * (smallest (replicate n size) / chunk) ≡ n * chunk * (size / chunk)
even_smallest zero size chunk = omega (arith, ap (λ x. x * (smallest (replicate 0 size) / chunk)) none, ap (λ x. x * (size / chunk)) none) where
  none : 0 * chunk ≡ 0
  none = omega arith
even_smallest (suc n) size chunk = ap (λ x. suc n * chunk * (x / chunk)) (smallest-replicate (suc n) size (omega arith))

pub even_zones_are_stripes : EvenZonesAreStripes
unfolding size_of slot head
even_zones_are_stripes = record {
  sizes = λ chunk n size.
      let q = size / chunk in
      let zoned : chunk * sum (whole_chunks chunk (replicate n size)) ≡ chunk * (n * q) = ap (λ counts. chunk * sum counts) (even_chunks chunk n size) ∙ ap (λ x. chunk * x) (sum_by-replicate (λ x. x) n q) in
      let turned : chunk * (n * q) ≡ n * chunk * q = sym (mul_assoc chunk n q) ∙ ap (λ x. x * q) (mul_comm chunk n) in
      zoned ∙ turned ∙ sym (even_smallest n size chunk) ∙ ap (λ x. x * chunk * (smallest (replicate n size) / chunk)) (sym (length-replicate n size));
  slots = λ chunk n size s pos lt.
      let q = size / chunk in
      let sectors : chunk * sum (whole_chunks chunk (replicate n size)) ≡ n * q * chunk =
      ap (λ counts. chunk * sum counts) (even_chunks chunk n size) ∙ ap (λ x. chunk * x) (sum_by-replicate (λ x. x) n q) ∙ mul_comm chunk (n * q) in
      let place : in_zones (zones (whole_chunks chunk (replicate n size))) (s / chunk) ≡ record { member = s / chunk % n; at = s / chunk / n } =
      ap (λ counts. in_zones (zones counts) (s / chunk)) (even_chunks chunk n size)
      ∙ even_place n q (s / chunk) (div_below s chunk (n * q) pos (omega (arith, sectors))) in
      ap (λ (to : Slot). record { member = to.member; at = to.at * chunk + s % chunk }) place
      ∙ ap (λ x. record { member = s / chunk % x; at = s / chunk / x * chunk + s % chunk }) (sym (length-replicate n size));
  heads = λ chunk n size r s. refl;
}

pub stripes_go_by_smallest : StripesGoBySmallest
unfolding size_of slot head
stripes_go_by_smallest = record {
  sizes = λ chunk sizes.
      let n = length sizes in
      sym (even_smallest n (smallest sizes) chunk)
      ∙ ap (λ x. x * chunk * (smallest (replicate n (smallest sizes)) / chunk)) (sym (length-replicate n (smallest sizes)));
  slots = λ chunk sizes s.
      ap (λ x. record { member = s / chunk % x; at = s / chunk / x * chunk + s % chunk }) (sym (length-replicate (length sizes) (smallest sizes)));
  heads = λ chunk sizes r s. refl;
}
