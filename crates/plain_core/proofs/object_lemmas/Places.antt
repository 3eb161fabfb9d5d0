-- What stays true of the places for all that a stack has.
use Rattle.std.proofs.Common.{◌≡◌, ◌<◌, ◌⊎◌, ◌∷◌, ◌++◌, inl, inr, ℕ, zero, suc, List, [], refl, sym, ap, subst, arith, Option, None}
use Rattle.std.specs.Prelude.{slice_set, slice_index_or}
use Rattle.std.proofs.Math.ListN.{length-set}
use Rattle.stack_base.specs.declared.stack.Stack.{Stack}
use Rattle.stack_base.specs.Tree.{size, tree}
use Rattle.mempool_core.specs.Move.{PoolState}
use Rattle.model_disks.specs.Disks.{DiskState}
use Rattle.bio_records.specs.declared.bio.Bio.{Bio}
use Rattle.bio_records.specs.declared.bio.Pad.{Pad}
use Rattle.bio_records.specs.Items.{Item}
use Rattle.std.specs.Prelude.{filter}
use Rattle.std.proofs.lemmas.List.Elements.{All-append, All-filter}
use Rattle.stack_base.specs.declared.ids.DevId.{DevId}
use Rattle.stack_base.specs.declared.ids.SetId.TheVariants.{Of}
use Rattle.bio_records.specs.declared.tasks.TaskLists.{TaskLists}
use Rattle.task_steps.specs.Within.{IsWithinDevice, AreWithin, IsItemWithin, ListsAreWithin}
use Rattle.bio_records.specs.Sorting.{is_lower, is_for_device, is_of}
use Rattle.bio_lists.specs.Submission.{submitted, order}
use Rattle.bio_lists.specs.Punt.{punted}
use Rattle.plain_core.specs.objects.Plain.{HasSize, HasPlacesForStack}

-- a list with one place changed: what stands at a place is that, or what stood there
pub at_set : {X : Type 0} (xs : List X) (i k : ℕ) (x d : X)
    → ((k ≡ i) × (slice_index_or (slice_set xs i x) k d ≡ x)) ⊎ (slice_index_or (slice_set xs i x) k d ≡ slice_index_or xs k d)
at_set [] i k x d = inr refl
at_set (y ∷ xs) zero zero x d = inl (refl, refl)
at_set (y ∷ xs) zero (suc k) x d = inr refl
at_set (y ∷ xs) (suc i) zero x d = inr refl
at_set (y ∷ xs) (suc i) (suc k) x d = elim (at_set xs i k x d) [
  | inl same ↦ inl (ap suc same.0, same.1)
  | inr other ↦ inr other
]

pub rescued : {stack : Stack} {pools : List PoolState} {rescues : List (List (Item Pad))} {disks : List (Option DiskState)} (dev : ℕ) (bios : List (Item Pad))
    → HasPlacesForStack stack pools rescues disks → AreWithin stack bios → HasPlacesForStack stack pools (slice_set rescues dev bios) disks
rescued {stack = stack} {rescues = rescues} dev bios kept within = record {
  pool = kept.pool;
  rescue = omega (arith, kept.rescue, length-set rescues dev bios);
  disk = kept.disk;
  within = λ k. elim (at_set rescues dev k bios []) [
    | inl same ↦ subst (AreWithin stack) (sym same.1) within
    | inr other ↦ subst (AreWithin stack) (sym other) (kept.within k)
  ];
}

pub disked : {stack : Stack} {pools : List PoolState} {rescues : List (List (Item Pad))} {disks : List (Option DiskState)} (dev : ℕ) (disk : Option DiskState)
    → HasPlacesForStack stack pools rescues disks → ((sectors : ℕ) → HasSize sectors (slice_index_or disks dev None) → HasSize sectors disk)
    → HasPlacesForStack stack pools rescues (slice_set disks dev disk)
disked {stack = stack} {disks = disks} dev disk kept sized = record {
  pool = kept.pool;
  rescue = kept.rescue;
  disk = λ k few keeps. elim (at_set disks dev k disk None) [
    | inl same ↦ subst (HasSize (size (tree stack k))) (sym same.1) (sized (size (tree stack k)) (subst (λ p. HasSize (size (tree stack k)) (slice_index_or disks p None)) same.0 (kept.disk k few keeps)))
    | inr other ↦ subst (HasSize (size (tree stack k))) (sym other) (kept.disk k few keeps)
  ];
  within = kept.within;
}

-- what is punted is within
pub punted_within : (stack : Stack) (dev : DevId) (lists : TaskLists) → ListsAreWithin stack lists → AreWithin stack (punted (Of dev) lists)
punted_within stack dev lists within =
    All-append (IsItemWithin stack) (filter (is_of (Of dev)) lists.list0) (filter (is_of (Of dev)) lists.list1)
    (All-filter (is_of (Of dev)) (IsItemWithin stack) lists.list0 within.0)
    (All-filter (is_of (Of dev)) (IsItemWithin stack) lists.list1 within.1)

-- so is what is served next
pub ordered_within : (stack : Stack) (dev : DevId) (lists : TaskLists) → ListsAreWithin stack lists → AreWithin stack (order dev lists)
ordered_within stack dev lists within =
    All-append (IsItemWithin stack) (filter (is_lower dev) lists.list0) (filter (is_for_device dev) lists.list0 ++ lists.list1)
    (All-filter (is_lower dev) (IsItemWithin stack) lists.list0 within.0)
    (All-append (IsItemWithin stack) (filter (is_for_device dev) lists.list0) lists.list1
    (All-filter (is_for_device dev) (IsItemWithin stack) lists.list0 within.0) within.1)

pub next_within : (stack : Stack) (dev : DevId) (lists : TaskLists) (part : Item Pad) (rest : List (Item Pad)) → ListsAreWithin stack lists
    → order dev lists ≡ part ∷ rest → IsWithinDevice stack part.bio
next_within stack dev lists part rest within is = subst (AreWithin stack) is (ordered_within stack dev lists within) 0 part (omega arith)

-- one more that is submitted
pub submitted_within : (stack : Stack) (lists : TaskLists) (part : Item Pad) → ListsAreWithin stack lists → IsWithinDevice stack part.bio
    → ListsAreWithin stack (submitted part lists)
submitted_within stack lists part within is =
    (All-append (IsItemWithin stack) lists.list0 (part ∷ []) within.0 (λ k d lt. only k d lt), within.1)
  where
    only : (k : ℕ) (d : Item Pad) → k < 1 → IsItemWithin stack (slice_index_or (part ∷ []) k d)
    only zero d lt = is
    only (suc k) d lt = absurd (omega (arith, lt))

-- and two more
pub both_within : (stack : Stack) (lists one two : TaskLists) (front rest : Item Pad) → ListsAreWithin stack lists → one ≡ submitted front lists → two ≡ submitted rest one
    → IsWithinDevice stack front.bio → IsWithinDevice stack rest.bio → ListsAreWithin stack two
both_within stack lists one two front rest within first second front_is rest_is =
    subst (ListsAreWithin stack) (sym second)
    (submitted_within stack one rest (subst (ListsAreWithin stack) (sym first) (submitted_within stack lists front within front_is)) rest_is)

-- a bio within a device, by its device and its sectors alone
pub same_place : (stack : Stack) (bio other : Bio) → IsWithinDevice stack bio → other.dev ≡ bio.dev → other.range ≡ bio.range → IsWithinDevice stack other
same_place stack bio other within dev range = record {
  device = rw dev within.device;
  some = rw range within.some;
  within = rw (dev, range) within.within;
}

pub head_within : (stack : Stack) (items rest : List (Item Pad)) (part : Item Pad) → AreWithin stack items → items ≡ part ∷ rest → IsWithinDevice stack part.bio
head_within stack items rest part within is = subst (AreWithin stack) is within 0 part (omega arith)
