-- No two sectors of a device that cuts are one sector of a member.
use Rattle.std.proofs.Common.{◌≡◌, ℕ, ◌+◌, ◌-◌, ◌*◌, ◌/◌, ◌%◌, ◌<◌, ◌≤◌, List, [], ◌∷◌, length, sum, inl, inr, sym, ◌∙◌, ap, arith}
use Rattle.std.proofs.lemmas.Bool.{cases_lt}
use Rattle.std.proofs.lemmas.Nat.{div_below, mod_below, div-mul-add, mod-mul-add, div-add-mod'}
use Rattle.std.proofs.lemmas.List.Sums.{sum_by-cons}
use Rattle.std.proofs.Math.Nat.{mul_comm}
use Rattle.stack_base.specs.declared.stack.Kind.{Kind}
use Rattle.stack_base.specs.declared.stack.Kind.TheVariants.{Disk, Linear, Stripe, Zoned, Limit, Mirror}
use Rattle.stack_base.specs.Mapping.{Slot, slot, among, size_of, whole_chunks, zones, in_zones}
use Rattle.stack_base.specs.Cutting.{CanCut}
use Rattle.stack_base.proofs.Members.{among-in, among-behind}
use Rattle.stack_base.proofs.Zones.{chunk_rank, chunk_forward}

abbrev member_of : Slot → ℕ
member_of to = to.member

abbrev at_of : Slot → ℕ
at_of to = to.at

-- a number is known by its quotient and its rest
same_parts : (c a b : ℕ) → a / c ≡ b / c → a % c ≡ b % c → a ≡ b
same_parts c a b quotient rest =
    let scaled : a / c * c ≡ b / c * c = ap (λ q. q * c) quotient in
    omega (arith, scaled, rest, div-add-mod' a c, div-add-mod' b c)

-- members one behind the other
linear_one : (sizes : List ℕ) (s u : ℕ) → s < sum sizes → u < sum sizes → among sizes s ≡ among sizes u → s ≡ u
linear_one [] s u lt lu same = absurd (omega (arith, lt))
linear_one (size ∷ sizes) s u lt lu same =
    let whole : sum (size ∷ sizes) ≡ size + sum sizes = sum_by-cons (λ x. x) size sizes in
    elim (cases_lt s size) [
      | inl first ↦ elim (cases_lt u size) [
        | inl also ↦ ap at_of (sym (among-in size sizes s first) ∙ same ∙ among-in size sizes u also)
        | inr behind ↦ let members = ap member_of (sym (among-in size sizes s first) ∙ same ∙ among-behind size sizes u behind) in absurd (omega (arith, members))
      ]
      | inr behind ↦ elim (cases_lt u size) [
        | inl first ↦ let members = ap member_of (sym (among-behind size sizes s behind) ∙ same ∙ among-in size sizes u first) in absurd (omega (arith, members))
        | inr also ↦
            let both = sym (among-behind size sizes s behind) ∙ same ∙ among-behind size sizes u also in
            let members = ap member_of both in
            let places = ap at_of both in
            let member : (among sizes (s - size)).member ≡ (among sizes (u - size)).member = omega (arith, members) in
            let rest = linear_one sizes (s - size) (u - size) (omega (arith, lt, whole, behind)) (omega (arith, lu, whole, also)) (λ k. record { member = member k; at = places k }) in
            omega (arith, rest, behind, also)
      ]
    ]

-- a sector of a member's chunk tells the chunk, and its place there
chunk_parts : (chunk j k s u : ℕ) → 1 ≤ chunk → j * chunk + s % chunk ≡ k * chunk + u % chunk → (j ≡ k) × (s % chunk ≡ u % chunk)
chunk_parts chunk j k s u some same = (
  sym (div-mul-add j chunk (s % chunk) (mod_below s chunk some)) ∙ ap (λ n. n / chunk) same ∙ div-mul-add k chunk (u % chunk) (mod_below u chunk some),
  sym (mod-mul-add j chunk (s % chunk) (mod_below s chunk some)) ∙ ap (λ n. n % chunk) same ∙ mod-mul-add k chunk (u % chunk) (mod_below u chunk some),
)

stripe_one : (chunk : ℕ) (sizes : List ℕ) (s u : ℕ) → 1 ≤ chunk → slot (Stripe chunk) sizes s ≡ slot (Stripe chunk) sizes u → s ≡ u
unfolding slot
stripe_one chunk sizes s u some same =
    let member = ap member_of same in
    let place = chunk_parts chunk (s / chunk / length sizes) (u / chunk / length sizes) s u some (ap at_of same) in
    same_parts chunk s u (same_parts (length sizes) (s / chunk) (u / chunk) place.0 member) place.1

zoned_one : (chunk : ℕ) (sizes : List ℕ) (s u : ℕ) → 1 ≤ chunk → s < size_of (Zoned chunk) sizes → u < size_of (Zoned chunk) sizes → slot (Zoned chunk) sizes s ≡ slot (Zoned chunk) sizes u → s ≡ u
unfolding slot size_of
zoned_one chunk sizes s u some lt lu same =
    let counts = whole_chunks chunk sizes in
    let here = chunk_forward counts (s / chunk) (div_below s chunk (sum counts) some (omega (arith, lt, mul_comm chunk (sum counts)))) in
    let there = chunk_forward counts (u / chunk) (div_below u chunk (sum counts) some (omega (arith, lu, mul_comm chunk (sum counts)))) in
    let member = ap member_of same in
    let place = chunk_parts chunk (in_zones (zones counts) (s / chunk)).at (in_zones (zones counts) (u / chunk)).at s u some (ap at_of same) in
    let numbers : s / chunk ≡ u / chunk =
    sym here.numbered ∙ ap (λ m. chunk_rank counts m (in_zones (zones counts) (s / chunk)).at) member ∙ ap (chunk_rank counts (in_zones (zones counts) (u / chunk)).member) place.0 ∙ there.numbered in
    same_parts chunk s u numbers place.1

limit_one : (longest chunk : ℕ) (sizes : List ℕ) (s u : ℕ) → slot (Limit longest chunk) sizes s ≡ slot (Limit longest chunk) sizes u → s ≡ u
unfolding slot
limit_one longest chunk sizes s u same = ap at_of same

-- so at each kind that cuts
pub kind_one : (kind : Kind) (sizes : List ℕ) (s u : ℕ) → CanCut kind → s < size_of kind sizes → u < size_of kind sizes → slot kind sizes s ≡ slot kind sizes u → s ≡ u
unfolding slot size_of
kind_one Linear sizes s u can lt lu same = linear_one sizes s u lt lu same
kind_one (Stripe chunk) sizes s u can lt lu same = stripe_one chunk sizes s u can same
kind_one (Zoned chunk) sizes s u can lt lu same = zoned_one chunk sizes s u can lt lu same
kind_one (Limit longest chunk) sizes s u can lt lu same = limit_one longest chunk sizes s u same
kind_one (Disk sectors bad) sizes s u can lt lu same = absurd can
kind_one (Mirror records) sizes s u can lt lu same = absurd can
