-- Finding the zone that holds a chunk.
use Rattle.std.proofs.Common.{◌≡◌, ◌^◌, ℕ, zero, suc, ◌+◌, ◌-◌, ◌*◌, ◌/◌, ◌%◌, ◌<◌, ◌≤◌, List, [], ◌∷◌, length, get_or, drop, sum, inl, inr, refl, ap, ◌∙◌, sym, subst, arith}
use Rattle.std.proofs.lemmas.Bool.{cases_lt}
use Rattle.std.specs.List.{sum_by}
use Rattle.std.proofs.lemmas.List.{drop_more}
use Rattle.std.proofs.lemmas.List.Sums.{sum_by-cons, get_or-le-sum_by}
use Rattle.std.proofs.lemmas.Nat.{div_below}
use Rattle.std.proofs.Math.Nat.{mul_comm}
use Rattle.stack_base.specs.declared.stack.Kind.TheVariants.{Zoned}
use Rattle.stack_base.specs.Mapping.{Slot, Zone, size_of, slot, whole_chunks, zones, zones_from, levels, in_zone, in_zones}
use Rattle.stack_base.proofs.Inside.{zoned_inside}
use Rattle.stack_base.proofs.Zones.{in_zones-in, in_zones-behind}
use Rattle.zoned_map.specs.Members.{Members, IsZoned}
use Rattle.zoned_map.proofs.Places.{zones_whole}

abbrev chunks_of : List Zone → ℕ
chunks_of = sum_by (λ (zone : Zone). zone.chunks)

-- chunk `e` of all zones is chunk `left` of those from a place on
pub record IsChunkFrom (zones : List Zone) (e place left : ℕ) : Type 0 where
  pub same : in_zones (drop place zones) left ≡ in_zones zones e
  pub low : left < chunks_of (drop place zones)

pub left_first :
    (chunk : ℕ) (sizes : List ℕ) (s : ℕ) → 1 ≤ chunk → s < size_of (Zoned chunk) sizes → IsChunkFrom (zones (whole_chunks chunk sizes)) (s / chunk) 0 (s / chunk)
unfolding size_of
left_first chunk sizes s pos lt = record {
  same = refl;
  low = omega (arith, zones_whole (whole_chunks chunk sizes), div_below s chunk (sum (whole_chunks chunk sizes)) pos (omega (arith, mul_comm chunk (sum (whole_chunks chunk sizes)))));
}

module _ (zones : List Zone) (e place left : ℕ) (d : Zone) (is : IsChunkFrom zones e place left) (within : place < length zones) where
  abbrev this : Zone
  this = get_or zones place d

  -- it is in this zone
  pub left_here : left < this.chunks → in_zone this left ≡ in_zones zones e
  left_here lt =
      sym (in_zones-in this (drop (place + 1) zones) left lt) ∙ ap (λ zs. in_zones zs left) (sym (drop_more zones place d within)) ∙ is.same

  -- or behind it
  pub left_behind : this.chunks ≤ left → IsChunkFrom zones e (place + 1) (left - this.chunks)
  left_behind ge = record {
    same =
        sym (in_zones-behind this (drop (place + 1) zones) left ge) ∙ ap (λ zs. in_zones zs left) (sym (drop_more zones place d within)) ∙ is.same;
    low = omega (arith, is.low, ap chunks_of (drop_more zones place d within), sum_by-cons (λ (zone : Zone). zone.chunks) this (drop (place + 1) zones));
  }

-- a zone that has chunks has members
members_of : (counts ts : List ℕ) (b i : ℕ) (d : Zone) → i < length (zones_from counts b ts) → length (get_or (zones_from counts b ts) i d).members ≡ 0 → (get_or (zones_from counts b ts) i d).chunks ≡ 0
unfolding zones_from
members_of counts [] b i d lt none = absurd (omega arith)
members_of counts (t ∷ ts) b zero d lt none = ap (λ x. x * (t - b)) none ∙ omega arith
members_of counts (t ∷ ts) b (suc i) d lt none = members_of counts ts t i d (omega arith) none

pub zone_has_members :
    (counts : List ℕ) (i e : ℕ) (d : Zone) → i < length (zones counts) → e < (get_or (zones counts) i d).chunks → 0 < length (get_or (zones counts) i d).members
zone_has_members counts i e d within lt =
    elim (cases_lt 0 (length (get_or (zones counts) i d).members)) [
      | inl some ↦ some
      | inr none ↦ absurd (omega (arith, members_of counts (levels counts) 0 i d within (omega arith)))
    ]

-- the place of a sector of the device is a small number
pub place_small :
    (chunk : ℕ) (sizes : List ℕ) (s : ℕ) → 1 ≤ chunk → s < size_of (Zoned chunk) sizes → sum sizes < 2 ^ 32
    → (in_zones (zones (whole_chunks chunk sizes)) (s / chunk)).at * chunk + s % chunk < 2 ^ 32
unfolding slot
place_small chunk sizes s pos lt small =
    let inside = zoned_inside chunk sizes s pos lt in
    omega (arith, inside.1, get_or-le-sum_by (λ x. x) sizes (slot (Zoned chunk) sizes s).member 0 inside.0)

-- the zone that has the run's first chunk: it has members, and its chunk is the one that the sector's slot is in
pub record IsFound (chunk : ℕ) (sizes : List ℕ) (start left : ℕ) (zone : Zone) : Type 0 where
  pub some : 0 < length zone.members
  pub place : in_zones (zones (whole_chunks chunk sizes)) (start / chunk) ≡ in_zone zone left
  pub small : (zone.base + left / length zone.members) * chunk + start % chunk < 2 ^ 32

pub is_found :
    (chunk : ℕ) (sizes : List ℕ) (start left place : ℕ) (zs : List Zone) (zone : Zone) → 1 ≤ chunk → start < size_of (Zoned chunk) sizes → sum sizes < 2 ^ 32
    → zs ≡ zones (whole_chunks chunk sizes) → IsChunkFrom zs (start / chunk) place left → place < length zs → zone ≡ get_or zs place zone → left < zone.chunks
    → IsFound chunk sizes start left zone
is_found chunk sizes start left place zs zone pos lt fits are is within this here =
    let all = zones (whole_chunks chunk sizes) in
    let there : place < length all = subst (λ (xs : List Zone). place < length xs) are within in
    let same : get_or all place zone ≡ zone = ap (λ (xs : List Zone). get_or xs place zone) (sym are) ∙ sym this in
    let chunk_is : in_zones all (start / chunk) ≡ in_zone zone left =
    sym (left_here all (start / chunk) place left zone (subst (λ (xs : List Zone). IsChunkFrom xs (start / chunk) place left) are is) there (subst (λ (z : Zone). left < z.chunks) (sym same) here))
    ∙ ap (λ (z : Zone). in_zone z left) same in
    record {
      some =
          subst (λ (z : Zone). 0 < length z.members) same
          (zone_has_members (whole_chunks chunk sizes) place left zone there (subst (λ (z : Zone). left < z.chunks) (sym same) here));
      place = chunk_is;
      small = subst (λ (to : Slot). to.at * chunk + start % chunk < 2 ^ 32) chunk_is (place_small chunk sizes start pos lt fits);
    }

-- the place in it is a small number by any number that is how many members it has
pub small_by : {chunk : ℕ} {sizes : List ℕ} {start left : ℕ} {zone : Zone} → IsFound chunk sizes start left zone → {members : ℕ} → members ≡ length zone.members
    → (zone.base + left / members) * chunk + start % chunk < 2 ^ 32
small_by {chunk} {sizes} {start} {left} {zone} found is = subst (λ n. (zone.base + left / n) * chunk + start % chunk < 2 ^ 32) (sym is) found.small

-- a zoned device that is asked for the piece of a run within it
module _ {chunk : ℕ} {sizes : List ℕ} {sectors : ℕ} {kept : List Zone} {view : Members} (start : ℕ) {len : ℕ} (is : IsZoned chunk sizes sectors kept)
    (view_is : record { chunk = chunk; sizes = sizes } ≡ view) (some : 1 ≤ len) (within : start + len ≤ size_of (Zoned view.chunk) view.sizes) where
  begins : start < size_of (Zoned chunk) sizes
  begins = omega (arith, some, within, ap (λ (v : Members). size_of (Zoned v.chunk) v.sizes) view_is)

  -- looks for the run's first chunk from its first zone on
  pub first_zone : {zs : List Zone} → zs ≡ kept → IsChunkFrom zs (start / chunk) 0 (start / chunk)
  first_zone are =
      subst (λ (zs : List Zone). IsChunkFrom zs (start / chunk) 0 (start / chunk)) (sym (are ∙ is.zones)) (left_first chunk sizes start is.shape.0 begins)

  -- and finds it in the zone at this place, where that has more chunks than stand before it there
  pub found_in : {zs : List Zone} {left place : ℕ} {zone seen : Zone} → zs ≡ kept → IsChunkFrom zs (start / chunk) place left → place < length zs
      → zone ≡ get_or zs place zone → seen ≡ zone → left < seen.chunks → IsFound chunk sizes start left seen
  found_in {zs} {left} {place} {zone} {seen} are from there zone_is seen_is here =
      subst (IsFound chunk sizes start left) (sym seen_is)
      (is_found chunk sizes start left place zs zone is.shape.0 begins is.small (are ∙ is.zones) from there zone_is
      (omega (arith, ap (λ (z : Zone). z.chunks) seen_is, here)))
