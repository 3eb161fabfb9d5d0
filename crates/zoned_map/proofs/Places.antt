-- Which sector of a zoned device a sector of a member is, by the number of its chunk.
use Rattle.std.proofs.Common.{◌≡◌, ◌^◌, ℕ, zero, suc, ◌+◌, ◌-◌, ◌*◌, ◌/◌, ◌%◌, ◌<◌, ◌≤◌, min, List, [], ◌∷◌, length, sum, inl, inr, ap, ◌∙◌, sym, subst, arith}
use Rattle.std.specs.Prelude.{nat_lt, slice_index, None, Some}
use Rattle.std.specs.List.{sum_by}
use Rattle.std.proofs.lemmas.Bool.{cases_lt, lt-ltb, le-ltb}
use Rattle.std.proofs.lemmas.List.{length-map, get_or-map}
use Rattle.std.proofs.lemmas.List.Sums.{sum_by-cons, sum-map}
use Rattle.std.proofs.lemmas.Nat.{div_below, mod_below, mul-add-lt, div-mul-add, mod-mul-add, div-add-mod'}
use Rattle.std.proofs.Math.Nat.{mul_comm, mul-le-mul_right}
use Rattle.stack_base.specs.Mapping.{Slot, size_of, slot, whole_chunks, Zone, zones, zones_from, reaching, levels, in_zones}
use Rattle.stack_base.proofs.WholeChunks.{whole_chunks_le, chunk_count_le}
use Rattle.stack_base.proofs.Passing.{passing, passing-yes, passing-no, passing_there}
use Rattle.stack_base.proofs.Zones.{IsEnumeration, before, chunk_rank, sum_from, next_before, total_ends, none_before, levels_enumerate, total_sum, chunk_forward, chunk_back}
use Rattle.zoned_map.specs.Members.{Members, IsPlace, IsSectorOf, IsZoned}
use Rattle.zoned_map.specs.Numbers as spec
use Rattle.zoned_map.proofs.Ranges.{total_range}

-- the number of a chunk, in its two forms
pub number_is : (counts : List ℕ) (m row : ℕ) → chunk_rank counts m row ≡ spec.chunk_number counts m row
number_is counts m row = omega (arith, total_range (λ i. min (slice_index counts i) row) 0 (length counts))

-- values cut off, and one more for each that is cut off, are no more than the values
cut_le :
    (f : ℕ → ℕ) (row a n : ℕ) → sum_from (λ i. min (f i) row) a n + length (passing (λ i. nat_lt row (f i)) a n) ≤ sum_from f a n
cut_le f row a zero = omega arith
cut_le f row a (suc n) =
    let test = λ (i : ℕ). nat_lt row (f i) in
    elim (cases_lt row (f a)) [
      | inl more ↦ omega (arith, ap length (passing-yes test a n (lt-ltb row (f a) more)), cut_le f row (a + 1) n)
      | inr ends ↦ omega (arith, ap length (passing-no test a n (le-ltb row (f a) ends)), cut_le f row (a + 1) n)
    ]

-- a chunk of a member has a number below all chunks
pub number_below : (counts : List ℕ) (m row : ℕ) → m < length counts → row < slice_index counts m → chunk_rank counts m row < sum counts
number_below counts m row within has =
    let test = λ (i : ℕ). nat_lt row (slice_index counts i) in
    let there = passing_there test 0 (length counts) m (omega arith) (omega arith) (lt-ltb row (slice_index counts m) has) in
    let place : m - 0 ≡ m = omega arith in
    omega (
      arith,
      ap (λ x. length (passing test 0 x)) place,
      there.0,
      cut_le (slice_index counts) row 0 (length counts),
      total_sum counts,
    )

module _ (chunk : ℕ) (sizes : List ℕ) (pos : 1 ≤ chunk) where
  -- each sector of the device is in a chunk of a member, with its number
  place_at :
      (m at s : ℕ) → IsPlace chunk sizes m at s
      → (m < length (whole_chunks chunk sizes)) × (at / chunk < slice_index (whole_chunks chunk sizes) m)
      × (s ≡ chunk_rank (whole_chunks chunk sizes) m (at / chunk) * chunk + at % chunk)
  unfolding slot size_of
  place_at m at s is =
      let counts = whole_chunks chunk sizes in
      let to = in_zones (zones counts) (s / chunk) in
      let there = chunk_forward counts (s / chunk) (div_below s chunk (sum counts) pos (omega (arith, is.0, mul_comm chunk (sum counts)))) in
      let member : to.member ≡ m = ap (λ (w : Slot). w.member) is.1 in
      let sector : to.at * chunk + s % chunk ≡ at = ap (λ (w : Slot). w.at) is.1 in
      let low : s % chunk < chunk = mod_below s chunk pos in
      let row : to.at ≡ at / chunk = sym (div-mul-add to.at chunk (s % chunk) low) ∙ ap (λ x. x / chunk) sector in
      let within : s % chunk ≡ at % chunk = sym (mod-mul-add to.at chunk (s % chunk) low) ∙ ap (λ x. x % chunk) sector in
      let numbered : chunk_rank counts m (at / chunk) ≡ s / chunk = ap (λ x. chunk_rank counts x (at / chunk)) (sym member) ∙ ap (chunk_rank counts to.member) (sym row) ∙ there.numbered in (
        subst (λ x. x < length counts) member there.member,
        subst (λ x. at / chunk < slice_index counts x) member (subst (λ x. x < slice_index counts to.member) row there.at),
        omega (arith, div-add-mod' s chunk, ap (λ x. x * chunk) numbered, within),
      )

  -- a sector in a whole chunk of a member is the sector of the device in the chunk with its number
  pub sector_there :
      (m at : ℕ) → m < length sizes → at / chunk < slice_index (whole_chunks chunk sizes) m
      → IsPlace chunk sizes m at (chunk_rank (whole_chunks chunk sizes) m (at / chunk) * chunk + at % chunk)
  unfolding slot size_of
  sector_there m at within has =
      let counts = whole_chunks chunk sizes in
      let e = chunk_rank counts m (at / chunk) in
      let there : m < length counts = omega (arith, length-map sizes (λ (size : ℕ). size / chunk)) in
      let below : e < sum counts = number_below counts m (at / chunk) there has in
      let low : at % chunk < chunk = mod_below at chunk pos in
      let chunk_is : (e * chunk + at % chunk) / chunk ≡ e = div-mul-add e chunk (at % chunk) low in
      let rest_is : (e * chunk + at % chunk) % chunk ≡ at % chunk = mod-mul-add e chunk (at % chunk) low in
      let whole : at / chunk * chunk + at % chunk ≡ at = div-add-mod' at chunk in (
        mul-add-lt e chunk (at % chunk) (sum counts) below low,
        ap (λ x. record { member = (in_zones (zones counts) x).member; at = (in_zones (zones counts) x).at * chunk + (e * chunk + at % chunk) % chunk }) chunk_is
            ∙ ap (λ (to : Slot). record { member = to.member; at = to.at * chunk + (e * chunk + at % chunk) % chunk }) (chunk_back counts m (at / chunk) there has)
            ∙ ap (λ x. record { member = m; at = at / chunk * chunk + x }) rest_is
            ∙ ap (λ x. record { member = m; at = x }) whole,
      )

  -- it is the one that `sector_of` answers, and no other is there
  pub sector_found :
      (m at : ℕ) → m < length sizes → at / chunk < slice_index (whole_chunks chunk sizes) m
      → IsSectorOf chunk sizes m at (Some (chunk_rank (whole_chunks chunk sizes) m (at / chunk) * chunk + at % chunk))
  sector_found m at within has =
      let count : slice_index (whole_chunks chunk sizes) m ≡ slice_index sizes m / chunk = get_or-map (λ (size : ℕ). size / chunk) sizes m 0 0 within in (
        omega (arith, div-add-mod' at chunk, mul-add-lt (at / chunk) chunk (at % chunk) (slice_index sizes m / chunk) (omega arith) (mod_below at chunk pos), mul_comm chunk (slice_index sizes m / chunk)),
        sector_there m at within has,
        λ other is. (place_at m at other is).2,
      )

  -- and behind a member's whole chunks there is none
  pub sector_none :
      (m at : ℕ) → m < length sizes → slice_index (whole_chunks chunk sizes) m ≤ at / chunk → IsSectorOf chunk sizes m at None
  sector_none m at within ends =
      let count : slice_index (whole_chunks chunk sizes) m ≡ slice_index sizes m / chunk = get_or-map (λ (size : ℕ). size / chunk) sizes m 0 0 within in (
        omega (arith, div-add-mod' at chunk, mul-le-mul_right chunk (subst (λ x. x ≤ at / chunk) count ends)),
        λ other is. absurd (omega (arith, (place_at m at other is).1)),
      )

-- the chunks of the zones behind a level are all those of the members behind it
zones_total :
    (counts ts : List ℕ) (b : ℕ) → IsEnumeration counts b ts
    → before counts b + sum_by (λ (zone : Zone). zone.chunks) (zones_from counts b ts) ≡ sum counts
unfolding zones_from
zones_total counts [] b ends = omega (arith, total_sum counts, total_ends counts b ends)
zones_total counts (t ∷ ts) b enum =
    omega (
      arith,
      next_before counts b t enum.0 enum.1,
      sum_by-cons (λ (zone : Zone). zone.chunks) (record { members = reaching counts t; base = b; chunks = length (reaching counts t) * (t - b) }) (zones_from counts t ts),
      zones_total counts ts t enum.2,
    )

-- so all zones together have the chunks of all members
pub zones_whole : (counts : List ℕ) → sum_by (λ (zone : Zone). zone.chunks) (zones counts) ≡ sum counts
zones_whole counts = omega (arith, zones_total counts (levels counts) 0 (levels_enumerate counts), none_before counts)

-- all whole chunks are no more than all sectors
pub counts_small : (chunk : ℕ) (sizes : List ℕ) → sum sizes < 2 ^ 32 → sum (whole_chunks chunk sizes) < 2 ^ 32
counts_small chunk sizes small = omega (arith, small, sum-map (λ (size : ℕ). size / chunk) sizes, chunk_count_le chunk sizes)

-- and each sector of the device is a small number
pub sector_small : (chunk : ℕ) (sizes : List ℕ) (m at s : ℕ) → IsPlace chunk sizes m at s → sum sizes < 2 ^ 32 → s < 2 ^ 32
unfolding size_of
sector_small chunk sizes m at s is small = omega (arith, is.0, whole_chunks_le chunk sizes)

-- a zoned device that is asked for the sector that one of a member of its is, by counts of chunks that are its members' own
module _ {chunk : ℕ} {sizes : List ℕ} {sectors : ℕ} {kept : List Zone} {view : Members} {m : ℕ} (is : IsZoned chunk sizes sectors kept)
    (view_is : record { chunk = chunk; sizes = sizes } ≡ view) (asked : m < length view.sizes) where
  within : m < length sizes
  within = omega (arith, asked, ap (λ (v : Members). length v.sizes) view_is)

  -- it is in a whole chunk of the member: that with the number that was counted
  module _ {at : ℕ} {counts : List ℕ} (are : counts ≡ whole_chunks chunk sizes) (has : at / chunk < slice_index counts m) where
    pub found_at : {number : ℕ} → number ≡ spec.chunk_number counts m (at / chunk) → IsSectorOf chunk sizes m at (Some (number * chunk + at % chunk))
    found_at {number} number_of =
        let same : number ≡ chunk_rank (whole_chunks chunk sizes) m (at / chunk) =
        number_of ∙ ap (λ xs. spec.chunk_number xs m (at / chunk)) are ∙ sym (number_is (whole_chunks chunk sizes) m (at / chunk)) in
        subst (λ n. IsSectorOf chunk sizes m at (Some (n * chunk + at % chunk))) (sym same)
        (sector_found chunk sizes is.shape.0 m at within (subst (λ xs. at / chunk < slice_index xs m) are has))

  -- or behind them, where none is
  pub none_at : {at : ℕ} {counts : List ℕ} → counts ≡ whole_chunks chunk sizes → slice_index counts m ≤ at / chunk → IsSectorOf chunk sizes m at None
  none_at {at} are ends = sector_none chunk sizes is.shape.0 m at within (subst (λ xs. slice_index xs m ≤ at / chunk) are ends)
