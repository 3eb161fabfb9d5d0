-- What callers want to know of the words of a sector.
use Rattle.std.proofs.Common.{◌≡◌, ℕ, ◌+◌, ◌<◌, ◌%◌, ◌^◌, ◌==◌, true, false, not, List, length, get_or, refl, sym, ◌∙◌, inl, inr, lit<, add-zero, arith}
use Rattle.std.proofs.lemmas.List.FromFn.{length-map-range_with_len, get_or-map-range_with_len, fill_by_all}
use Rattle.std.proofs.lemmas.List.Folds.{list_any_at}
use Rattle.std.proofs.lemmas.Bool.{cases_eq, ne_eqb}
use Rattle.std.proofs.Math.Nat.{mod-add-mod, add-mod-mod}
use Rattle.stack_base.specs.Words.{sector_from, zero_sector, is_written}

-- a sector has 64 words
pub length_sector_from : (first : ℕ) → length (sector_from first) ≡ 64
unfolding sector_from
length_sector_from first = length-map-range_with_len (λ i. (first + i) % 2 ^ 64) 0 64

pub length_zero_sector : length zero_sector ≡ 64
unfolding zero_sector
length_zero_sector = refl

-- word i counts i from the first
pub word_of_sector : (first i d : ℕ) → i < 64 → get_or (sector_from first) i d ≡ (first + i) % 2 ^ 64
unfolding sector_from
word_of_sector first i d lt = get_or-map-range_with_len (λ i. (first + i) % 2 ^ 64) 0 64 i i d lt (omega arith)

-- a first word and its remainder modulo 2 ^ 64 begin the same sector
pub sector_from_mod : (first : ℕ) → sector_from (first % 2 ^ 64) ≡ sector_from first
unfolding sector_from
sector_from_mod first = simp mod-add-mod

-- so do a first word and one with a part of it modulo 2 ^ 64
pub sector_from_add_mod : (first more : ℕ) → sector_from (first + more % 2 ^ 64) ≡ sector_from (first + more)
sector_from_add_mod first more =
    sym (sector_from_mod (first + more % 2 ^ 64)) ∙ rw (add-mod-mod first more (2 ^ 64)) (sector_from_mod (first + more))

-- of two words that follow each other one is not zero
not_both_zero : (first : ℕ) → first % 2 ^ 64 ≡ 0 → (first + 1) % 2 ^ 64 ≡ 1
not_both_zero first zero = omega arith

-- a sector with a word that is not zero is written
written_at : (first i : ℕ) → i < 64 → ((first + i) % 2 ^ 64 ≡ 0 → ⊥) → is_written (sector_from first) ≡ true
unfolding is_written
written_at first i lt more =
    list_any_at (λ word. not (word == 0)) (sector_from first) i 0 (rw length_sector_from lt)
    (rw (word_of_sector first i 0 lt, ne_eqb ((first + i) % 2 ^ 64) 0 more))

-- a sector of data is never all zeros
pub is_written_sector_from : (first : ℕ) → is_written (sector_from first) ≡ true
is_written_sector_from first =
    elim (cases_eq (first % 2 ^ 64) 0) [
      | inl zero ↦ written_at first 1 (lit< tt) (λ other. omega (arith, not_both_zero first zero))
      | inr more ↦ written_at first 0 (lit< tt) (λ zero. more (rw add-zero at zero))
    ]

-- the sector of zeros is not written
pub is_written_zero_sector : is_written zero_sector ≡ false
unfolding is_written zero_sector
is_written_zero_sector = refl

-- the equations above, for a function's attribute
pub ruleset sector_rules = (length_sector_from, length_zero_sector, word_of_sector, sector_from_mod, sector_from_add_mod, is_written_sector_from, is_written_zero_sector)
