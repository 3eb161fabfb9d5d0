-- What holds of each bio that waits holds of those that wait next.
use Rattle.std.proofs.Common.{◌≡◌, ◌++◌, List, [], ◌∷◌, All, filter, subst}
use Rattle.std.proofs.lemmas.List.Elements.{All-head, All-nil, All-cons, All-append, All-filter}
use Rattle.stack_base.specs.declared.ids.DevId.{DevId}
use Rattle.stack_base.specs.declared.ids.SetId.TheVariants.{Of}
use Rattle.bio_records.specs.declared.bio.Pad.{Pad}
use Rattle.bio_records.specs.declared.tasks.TaskLists.{TaskLists}
use Rattle.bio_records.specs.Items.{Item}
use Rattle.bio_records.specs.Sorting.{is_lower, is_for_device, is_of, is_of_other}
use Rattle.bio_lists.specs.Submission.{submitted, order}
use Rattle.bio_lists.specs.Punt.{punted, unpunted}

-- in the lists of a task
abbrev pub BothHave : (Item Pad → Type 0) → TaskLists → Type 0
BothHave P lists = All P lists.list0 × All P lists.list1

module _ (P : Item Pad → Type 0) (lists : TaskLists) (have : BothHave P lists) where
  pub all_ordered : (dev : DevId) → All P (order dev lists)
  all_ordered dev =
      All-append P (filter (is_lower dev) lists.list0) (filter (is_for_device dev) lists.list0 ++ lists.list1) (All-filter (is_lower dev) P lists.list0 have.0)
      (All-append P (filter (is_for_device dev) lists.list0) lists.list1 (All-filter (is_for_device dev) P lists.list0 have.0) have.1)

  -- of the one that is served next, and of the others
  pub next_has : (dev : DevId) (item : Item Pad) (rest : List (Item Pad)) → order dev lists ≡ item ∷ rest → P item
  next_has dev item rest e = All-head P item rest (subst (All P) e (all_ordered dev))

  -- one more is submitted
  pub all_submitted : (item : Item Pad) → P item → BothHave P (submitted item lists)
  all_submitted item own = (All-append P lists.list0 (item ∷ []) have.0 (All-cons P item [] own (All-nil P)), have.1)

  -- some go to a rescuer
  pub all_punted : (dev : DevId) → All P (punted (Of dev) lists)
  all_punted dev =
      All-append P (filter (is_of (Of dev)) lists.list0) (filter (is_of (Of dev)) lists.list1)
      (All-filter (is_of (Of dev)) P lists.list0 have.0) (All-filter (is_of (Of dev)) P lists.list1 have.1)

  pub all_unpunted : (dev : DevId) → BothHave P (unpunted (Of dev) lists)
  all_unpunted dev =
      (All-filter (is_of_other (Of dev)) P lists.list0 have.0, All-filter (is_of_other (Of dev)) P lists.list1 have.1)
