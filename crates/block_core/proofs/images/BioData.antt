-- The data of each bio are those of its place in its write.
use Rattle.std.proofs.Common.{◌≡◌, ◌+◌, ◌*◌, ◌^◌, ◌%◌, ◌≤◌, ◌==◌, if◌then◌else◌, ℕ, zero, suc, Bool, true, false, List, [], ◌∷◌, length, Some, refl, sym, ◌∙◌, ap, arith}
use Rattle.std.specs.Prelude.{All, slice_get, zip}
use Rattle.std.specs.List.{range_with_len}
use Rattle.std.specs.Option.{option_map_or}
use Rattle.std.proofs.lemmas.Bool.{eq-eqb}
use Rattle.std.proofs.lemmas.List.Elements.{All-nil, All-cons, All-map}
use Rattle.layout_model.specs.declared.write.Write.{Write}
use Rattle.bio_records.specs.declared.bio.Bio.{Bio}
use Rattle.bio_records.specs.Runs.{place_number, place_at}
use Rattle.bio_split.specs.Split.{split_rest}
use Rattle.run_machine.specs.Tasks.{Todo, first_bio}
use Rattle.run_machine.specs.Opened.{Scenario, todos}
use Rattle.block_core.specs.Fragments.{offset_of}
use Rattle.block_core.specs.Images.{tag_of, HasItsWord}
use Rattle.block_core.proofs.start.InvariantAtStart.{all_map}
use Rattle.block_core.proofs.images.FragmentCounts.{place_on}
use Rattle.block_core.proofs.moves.Misfits.{Follows}
use Rattle.block_core.proofs.images.StillToCome.{over}
use Rattle.block_core.proofs.images.Completed.{over_follows}

abbrev if_not : Bool → ℕ
if_not b = if b then 0 else 1

abbrev pub loose : Scenario → Bio → ℕ
loose s bio = if_not (bio.word % 2 ^ 64 == (tag_of s bio.write + 64 * offset_of bio) % 2 ^ 64)

abbrev pub unfit : Scenario → Bio → ℕ
unfit s bio = over bio + loose s bio

pub tied : (s : Scenario) (bio : Bio) → loose s bio ≡ 0 → HasItsWord s bio
tied s bio none = by_test (bio.word % 2 ^ 64 == (tag_of s bio.write + 64 * offset_of bio) % 2 ^ 64) refl none
  where
    by_test : (v : Bool) → (bio.word % 2 ^ 64 == (tag_of s bio.write + 64 * offset_of bio) % 2 ^ 64) ≡ v → if_not v ≡ 0 → HasItsWord s bio
    by_test true is h = search (is, arith)
    by_test false is h = absurd (omega (arith, h))

pub not_loose : (s : Scenario) (bio : Bio) → HasItsWord s bio → loose s bio ≡ 0
not_loose s bio is = ap if_not (eq-eqb (bio.word % 2 ^ 64) ((tag_of s bio.write + 64 * offset_of bio) % 2 ^ 64) is)

next_word : (word tag o n : ℕ) → word % 2 ^ 64 ≡ (tag + 64 * o) % 2 ^ 64 → (word + 64 * n) % 2 ^ 64 % 2 ^ 64 ≡ (tag + 64 * (o + n)) % 2 ^ 64
next_word word tag o n is = omega (arith, is)

rest_tied : (s : Scenario) (whole : Bio) (n : ℕ) → n ≤ whole.range.len → over whole ≡ 0 → HasItsWord s whole
    → (whole.word + 64 * n) % 2 ^ 64 % 2 ^ 64 ≡ (tag_of s whole.write + 64 * place_number (place_at ((place_number whole.at + n) % 2 ^ 35))) % 2 ^ 64
rest_tied s whole n le none is =
    next_word whole.word (tag_of s whole.write) (offset_of whole) n is
    ∙ ap (λ o. (tag_of s whole.write + 64 * o) % 2 ^ 64) (sym (place_on (place_number whole.at) n (omega (arith, le, none))))

pub unfit_follows : (s : Scenario) → Follows (unfit s)
unfit_follows s = record {
  maps = λ to members bio. refl;
  fronts = λ whole into n node le none. omega (arith, none, over_follows.fronts whole into n node le (omega (arith, none)));
  rests = λ whole n le none.
      let small : over whole.bio ≡ 0 = omega (arith, none) in
      let fits : HasItsWord s whole.bio = tied s whole.bio (omega (arith, none)) in
      omega (arith, over_follows.rests whole n le small, not_loose s (split_rest whole n).bio (rest_tied s whole.bio n le small fits));
  legs = λ bio hand leg node number sizes members. refl;
  begins = λ writer todo node. refl;
}

-- each write that is to begin has its own tag
numbered_writes : (all : List Write) (a n : ℕ) (rs : List ℕ) (ws : List Write) → ((i : ℕ) (write : Write) → slice_get ws i ≡ Some write → slice_get all (a + i) ≡ Some write)
    → All (λ (x : ℕ × (ℕ × Write)). slice_get all x.0 ≡ Some x.1.1) (zip (range_with_len a n) (zip rs ws))
numbered_writes all a zero rs ws at = All-nil (λ (x : ℕ × (ℕ × Write)). slice_get all x.0 ≡ Some x.1.1)
numbered_writes all a (suc n) [] ws at = All-nil (λ (x : ℕ × (ℕ × Write)). slice_get all x.0 ≡ Some x.1.1)
numbered_writes all a (suc n) (r ∷ rs) [] at = All-nil (λ (x : ℕ × (ℕ × Write)). slice_get all x.0 ≡ Some x.1.1)
numbered_writes all a (suc n) (r ∷ rs) (write ∷ ws) at =
    let same : a + 0 ≡ a = omega arith in
    All-cons (λ (x : ℕ × (ℕ × Write)). slice_get all x.0 ≡ Some x.1.1) (a, (r, write)) (zip (range_with_len (a + 1) n) (zip rs ws))
    (ap (slice_get all) (sym same) ∙ at 0 write refl)
    (numbered_writes all (a + 1) n rs ws (λ i other is. let on : a + 1 + i ≡ a + suc i = omega arith in ap (slice_get all) on ∙ at (suc i) other is))

pub own_writes : (s : Scenario) → All (λ (todo : Todo). slice_get s.writes todo.number ≡ Some todo.write) (todos s)
own_writes s =
    All-map (λ (todo : Todo). slice_get s.writes todo.number ≡ Some todo.write) (λ x. record { number = x.0; round = x.1.0; write = x.1.1 }) (zip (range_with_len 0 (length s.writes)) (zip s.rounds s.writes))
    (numbered_writes s.writes 0 (length s.writes) s.rounds s.writes (λ i write is. let same : 0 + i ≡ i = omega arith in ap (slice_get s.writes) same ∙ is))

pub own_tags : (s : Scenario) → All (λ (todo : Todo). tag_of s todo.number ≡ todo.write.tag) (todos s)
own_tags s =
    all_map (λ (todo : Todo). slice_get s.writes todo.number ≡ Some todo.write) (λ (todo : Todo). tag_of s todo.number ≡ todo.write.tag)
    (λ todo is. ap (λ found. option_map_or (λ (write : Write). write.tag) found 0) is) (todos s) (own_writes s)

pub first_tied : (s : Scenario) (todo : Todo) → tag_of s todo.number ≡ todo.write.tag → HasItsWord s (first_bio 0 todo 0)
first_tied s todo is = omega (arith, is)
