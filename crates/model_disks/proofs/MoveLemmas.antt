-- What a bio makes of an image, sector by sector.
use Rattle.std.proofs.Common.{◌≡◌, ◌⊎◌, ◌+◌, ◌-◌, ◌*◌, ◌<◌, ◌≤◌, ℕ, List, [], ◌++◌, map, length, take, drop, get_or, inl, inr, refl, ap, ◌∙◌, arith, length-append, length-drop}
use Rattle.std.specs.List.{range_with_len}
use Rattle.std.proofs.lemmas.List.{length-take-le, get_or-take, get_or-drop, get_or_append_left, get_or-append_right}
use Rattle.std.proofs.lemmas.List.FromFn.{length-map-range_with_len, get_or-map-range_with_len}
use Rattle.std.proofs.lemmas.Bool.{cases_Bool}
use Rattle.stack_base.specs.declared.ids.Status.{Status}
use Rattle.stack_base.specs.declared.ids.Status.TheVariants.{Ok}
use Rattle.stack_base.specs.Fault.{status_eq}
use Rattle.stack_base.specs.Words.{sector_from}
use Rattle.bio_records.specs.declared.bio.Bio.{Bio}
use Rattle.bio_records.specs.declared.bio.Pad.{Pad}
use Rattle.bio_records.specs.Items.{Item}
use Rattle.model_disks.specs.Disks.{DiskState}
use Rattle.model_disks.specs.Moves.{written, Completes, BiosWriteTheirSectors}

-- the sectors of a bio
run : Bio → List (List ℕ)
run bio = map (λ j. sector_from (bio.word + 64 * j)) (range_with_len 0 bio.range.len)

length_run : (bio : Bio) → length (run bio) ≡ bio.range.len
unfolding run
length_run bio = length-map-range_with_len (λ j. sector_from (bio.word + 64 * j)) 0 bio.range.len

written_is : (bio : Bio) (image : List (List ℕ)) → written bio image ≡ take bio.range.start image ++ (run bio ++ drop (bio.range.start + bio.range.len) image)
unfolding written run
written_is bio image = refl

module _ (bio : Bio) (image : List (List ℕ)) (within : bio.range.start + bio.range.len ≤ length image) where
  length_front : length (take bio.range.start image) ≡ bio.range.start
  length_front = length-take-le bio.range.start image (omega arith)

  pub size : length (written bio image) ≡ length image
  size =
      rw (written_is bio image)
      (omega (
        arith,
        length-append (take bio.range.start image) (run bio ++ drop (bio.range.start + bio.range.len) image),
        length-append (run bio) (drop (bio.range.start + bio.range.len) image),
        length_front,
        length_run bio,
        length-drop (bio.range.start + bio.range.len) image,
      ))

  inside : (j : ℕ) → j < bio.range.len → get_or (written bio image) (bio.range.start + j) [] ≡ sector_from (bio.word + 64 * j)
  unfolding run
  inside j lt =
      let f = λ (i : ℕ). sector_from (bio.word + 64 * i) in
      let there : bio.range.start + j - bio.range.start ≡ j = omega arith in
      let here : j < length (run bio) = rw (length_run bio) lt in
      ap (λ sectors. get_or sectors (bio.range.start + j) []) (written_is bio image)
      ∙ get_or-append_right (take bio.range.start image) (run bio ++ drop (bio.range.start + bio.range.len) image) bio.range.start (bio.range.start + j) [] length_front (omega arith)
      ∙ ap (λ i. get_or (run bio ++ drop (bio.range.start + bio.range.len) image) i []) there
      ∙ get_or_append_left (run bio) (drop (bio.range.start + bio.range.len) image) [] j here
      ∙ get_or-map-range_with_len f 0 bio.range.len j j [] lt (omega arith)

  outside : (x : ℕ) → (x < bio.range.start) ⊎ (bio.range.start + bio.range.len ≤ x) → get_or (written bio image) x [] ≡ get_or image x []
  outside x (inl before) =
      let here : x < length (take bio.range.start image) = rw length_front before in
      ap (λ sectors. get_or sectors x []) (written_is bio image)
      ∙ get_or_append_left (take bio.range.start image) (run bio ++ drop (bio.range.start + bio.range.len) image) [] x here
      ∙ get_or-take bio.range.start image x [] before
  outside x (inr behind) =
      let there : bio.range.start + bio.range.len + (x - bio.range.start - bio.range.len) ≡ x = omega arith in
      ap (λ sectors. get_or sectors x []) (written_is bio image)
      ∙ get_or-append_right (take bio.range.start image) (run bio ++ drop (bio.range.start + bio.range.len) image) bio.range.start x [] length_front (omega arith)
      ∙ get_or-append_right (run bio) (drop (bio.range.start + bio.range.len) image) bio.range.len (x - bio.range.start) [] (length_run bio) (omega arith)
      ∙ get_or-drop (bio.range.start + bio.range.len) image (x - bio.range.start - bio.range.len) []
      ∙ ap (λ i. get_or image i []) there

pub bios_write_their_sectors : BiosWriteTheirSectors
bios_write_their_sectors = record { size = size; inside = inside; outside = outside }

-- a disk keeps its size
pub size_after : (old : DiskState) (index : ℕ) (item : Item Pad) (ending : Status) (new : DiskState) → Completes old index item ending new
    → item.bio.range.start + item.bio.range.len ≤ length old.image → length new.image ≡ length old.image
size_after old index item ending new completes within = rw completes.after (elim (cases_Bool (status_eq ending Ok)) [
  | inl well ↦ rw well (size item.bio old.image within)
  | inr failed ↦ rw failed refl
])
