-- Counting the chunks before a chunk of a member, one member after the other.
use Rattle.std.proofs.Common.{◌≡◌, ◌^◌, ℕ, ◌+◌, ◌*◌, ◌<◌, ◌≤◌, min, List, length, inl, inr, ap, ◌∙◌, sym, arith}
use Rattle.std.specs.Prelude.{nat_lt, slice_index}
use Rattle.std.proofs.lemmas.Bool.{cases_lt, lt-ltb, le-ltb}
use Rattle.std.proofs.lemmas.List.{length_push}
use Rattle.stack_base.proofs.Passing.{passing}
use Rattle.stack_base.proofs.Zones.{sum_from}
use Rattle.zoned_map.specs.Numbers.{chunk_number}
use Rattle.zoned_map.proofs.Places.{number_is}
use Rattle.zoned_map.proofs.Ranges.{passing_push, passing_skip, total_next}

-- the chunks of so many members, each up to a row, and those in the row of members before one
abbrev pub counted : List ℕ → ℕ → ℕ → ℕ → ℕ
counted counts member row place =
    sum_from (λ i. min (slice_index counts i) row) 0 place + length (passing (λ i. nat_lt row (slice_index counts i)) 0 (min place member))

-- they are counted so far; each member adds no more than all chunks and one
pub record IsCounted (counts : List ℕ) (member row so_far place : ℕ) : Type 0 where
  pub same : so_far ≡ counted counts member row place
  pub small : so_far ≤ place * 2 ^ 32

module _ (counts : List ℕ) (member row so_far place : ℕ) (is : IsCounted counts member row so_far place) (least : min (slice_index counts place) row < 2 ^ 32) where
  -- a member before the one, with a chunk in the row
  pub counted_beside : (next : ℕ) → next ≡ so_far + min (slice_index counts place) row + 1 → place < member → row < slice_index counts place → IsCounted counts member row next (place + 1)
  counted_beside next more before has =
      let test = λ (i : ℕ). nat_lt row (slice_index counts i) in
      let here : min place member ≡ place = omega arith in
      let there : min (place + 1) member ≡ place + 1 = omega arith in
      let one : length (passing test 0 (min (place + 1) member)) ≡ length (passing test 0 (min place member)) + 1 =
      ap (λ x. length (passing test 0 x)) there ∙ ap length (passing_push test place (lt-ltb row (slice_index counts place) has))
      ∙ length_push (passing test 0 place) place ∙ ap (λ x. length (passing test 0 x) + 1) (sym here) in
      record { same = omega (arith, more, is.same, one, total_next (λ i. min (slice_index counts i) row) place); small = omega (arith, more, is.small) }

  -- a member before the one, with none
  pub counted_without : (next : ℕ) → next ≡ so_far + min (slice_index counts place) row → slice_index counts place ≤ row → IsCounted counts member row next (place + 1)
  counted_without next more ends =
      let test = λ (i : ℕ). nat_lt row (slice_index counts i) in
      let same_many : length (passing test 0 (min (place + 1) member)) ≡ length (passing test 0 (min place member)) =
      elim (cases_lt place member) [
        | inl before ↦
            let here : min place member ≡ place = omega arith in
            let there : min (place + 1) member ≡ place + 1 = omega arith in
            ap (λ x. length (passing test 0 x)) there ∙ ap length (passing_skip test place (le-ltb row (slice_index counts place) ends))
            ∙ ap (λ x. length (passing test 0 x)) (sym here)
        | inr past ↦
            let still : min (place + 1) member ≡ min place member = omega arith in
            ap (λ x. length (passing test 0 x)) still
      ] in
      record { same = omega (arith, more, is.same, same_many, total_next (λ i. min (slice_index counts i) row) place); small = omega (arith, more, is.small) }

  -- the one itself, or a member behind it
  pub counted_past : (next : ℕ) → next ≡ so_far + min (slice_index counts place) row → member ≤ place → IsCounted counts member row next (place + 1)
  counted_past next more past =
      let test = λ (i : ℕ). nat_lt row (slice_index counts i) in
      let still : min (place + 1) member ≡ min place member = omega arith in
      record {
        same = omega (arith, more, is.same, ap (λ x. length (passing test 0 x)) still, total_next (λ i. min (slice_index counts i) row) place);
        small = omega (arith, more, is.small);
      }

-- all members are counted
pub counted_all :
    (counts : List ℕ) (member row so_far place : ℕ) → IsCounted counts member row so_far place → place ≡ length counts → member < length counts
    → so_far ≡ chunk_number counts member row
counted_all counts member row so_far place is all within =
    let test = λ (i : ℕ). nat_lt row (slice_index counts i) in
    let one : min place member ≡ member = omega arith in
    omega (
      arith,
      is.same,
      ap (sum_from (λ i. min (slice_index counts i) row) 0) all,
      ap (λ x. length (passing test 0 x)) one,
      number_is counts member row,
    )
