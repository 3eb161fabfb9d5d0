-- What the steps of a submission do to weights of its bios.
use Rattle.std.proofs.Common.{◌≡◌, ◌+◌, ◌==◌, ◌++◌, ℕ, Bool, true, false, List, [], ◌∷◌, filter, refl, ◌∙◌, ap, arith, cond}
use Rattle.std.specs.Prelude.{sum_by}
use Rattle.std.proofs.lemmas.List.Sums.{sum_by-cons, sum_by-append}
use Rattle.std.proofs.lemmas.List.Filters.{sum_by-filter_both}
use Rattle.stack_base.specs.declared.ids.DevId.{DevId}
use Rattle.stack_base.specs.Mapping.{Slot, slot}
use Rattle.stack_base.specs.Tree.{Tree, Leaf, Split, Mirrored}
use Rattle.stack_base.specs.declared.ids.SetId.TheVariants.{Of}
use Rattle.bio_records.specs.declared.bio.Bio.{Bio}
use Rattle.bio_records.specs.declared.bio.Pad.{Pad}
use Rattle.bio_records.specs.declared.tasks.TaskLists.{TaskLists}
use Rattle.bio_records.specs.Items.{Item}
use Rattle.bio_records.specs.Sorting.{is_lower, is_for_device, is_of, is_of_other}
use Rattle.bio_lists.specs.Submission.{order}
use Rattle.bio_lists.specs.Punt.{punted, unpunted}
use Rattle.bio_books.specs.Books.{VectorItem, SlipItem}
use Rattle.run_machine.specs.Scene.{Setup, tree_at}
use Rattle.run_machine.specs.Submissions.{Want, ToPush, ToCut, ToRecord, ToMaster, Doing, Rests, Drives, Copies, Breaks, Submission, settled, goes_on, asks_at, first_length, mapped, landed, Takes, WantsPunt, Links, Driving}
use Rattle.run_machine.specs.Tasks.{TaskState, Writer, Rescuer, Completer, Keeper, Gathered, NoBio, HasBio, HasBoth}
use Rattle.block_core.specs.Weights.{Weight, Lined, want_weight, doing_weight, task_weight, submission_weight, ask_weight, gathered_weight}
use Rattle.block_core.proofs.moves.Moves.{limit_of, with_submission, HasSubmission, Wants, with_want}

-- what mapping leaves as it is, landing does too
pub landed_same : (P : Bio → ℕ) → ((to : Slot) (members : ℕ → Tree) (bio : Bio) → P (mapped to members bio) ≡ P bio) → (t : Tree) (bio : Bio) → P (landed t bio) ≡ P bio
landed_same P same (Leaf number sectors) bio = refl
landed_same P same (Mirrored number sizes members) bio = refl
landed_same P same (Split number kind sizes members) bio =
    elim (first_length kind sizes bio.range == bio.range.len)
    as (λ v. P (cond v (landed (members (slot kind sizes bio.range.start).member) (mapped (slot kind sizes bio.range.start) members bio)) bio) ≡ P bio) [
      | true ↦ landed_same P same (members (slot kind sizes bio.range.start).member) (mapped (slot kind sizes bio.range.start) members bio) ∙ same (slot kind sizes bio.range.start) members bio
      | false ↦ refl
    ]

-- a weight of bios that their places in the stack do not matter to
abbrev pub IsBlind : Weight → Type 0
IsBlind w = (limit : ℕ) (item : Item Pad) (t : Tree) → w.bio (Lined limit) (record item { bio = landed t item.bio }) ≡ w.bio (Lined limit) item

pub asks_weight : (w : Weight) (limit : ℕ) (setup : Setup) (lists : TaskLists) (item : Item Pad) (t : Tree) → doing_weight w limit (asks_at setup lists item t) ≡ w.bio (Lined limit) item
asks_weight w limit setup lists item (Leaf number sectors) = omega arith
asks_weight w limit setup lists item (Mirrored number sizes members) = omega arith
asks_weight w limit setup lists item (Split number kind sizes members) = omega arith

pub first_weight : (w : Weight) → IsBlind w → (limit : ℕ) (setup : Setup) (items : List (Item Pad)) → submission_weight w limit (settled setup items) ≡ sum_by (w.bio (Lined limit)) items
first_weight w keeps limit setup [] = refl
first_weight w keeps limit setup (item ∷ waiting) =
    let at : Bio = landed (tree_at setup item.bio.dev) item.bio in
    let lists : TaskLists = record { list0 = []; list1 = waiting } in
    let a = asks_weight w limit setup lists (record item { bio = at }) (tree_at setup at.dev) in
    let b = keeps limit item (tree_at setup item.bio.dev) in
    let c = sum_by-cons (w.bio (Lined limit)) item waiting in
    omega (arith, a, b, c)

pub order_weight : (g : Item Pad → ℕ) (dev : DevId) (lists : TaskLists) → sum_by g (order dev lists) ≡ sum_by g lists.list0 + sum_by g lists.list1
order_weight g dev lists =
    let low = filter (is_lower dev) lists.list0 in
    let same = filter (is_for_device dev) lists.list0 in
    omega (
      arith,
      sum_by-append g low (same ++ lists.list1),
      sum_by-append g same lists.list1,
      sum_by-filter_both (is_for_device dev) (is_lower dev) (λ x. refl) g lists.list0,
    )

pub goes_weight : (w : Weight) → IsBlind w → (limit : ℕ) (setup : Setup) (dev : DevId) (lists : TaskLists)
    → submission_weight w limit (goes_on setup dev lists) ≡ sum_by (w.bio (Lined limit)) lists.list0 + sum_by (w.bio (Lined limit)) lists.list1
goes_weight w keeps limit setup dev lists = first_weight w keeps limit setup (order dev lists) ∙ order_weight (w.bio (Lined limit)) dev lists

-- a task goes on with another submission
pub submission_changes : (w : Weight) (place : ℕ) (x : TaskState) (doing : Doing) (lists : TaskLists) (new : Submission) → HasSubmission x doing lists
    → task_weight w place (with_submission x new) + submission_weight w (limit_of x) (record { doing = doing; lists = lists }) ≡ task_weight w place x + submission_weight w (limit_of x) new
submission_changes w place (Writer number todo taken submission) doing lists new h = let q = ap (submission_weight w 32) h in omega (arith, q)
submission_changes w place (Rescuer dev submission) doing lists new h = let q = ap (submission_weight w dev.0) h in omega (arith, q)
submission_changes w place (Completer disk carried) doing lists new h = absurd h
submission_changes w place (Keeper keeping) doing lists new h = absurd h

-- what is done wants something else
pub want_changes : (w : Weight) (limit : ℕ) (doing : Doing) (dev : DevId) (old new : Want) → Wants doing dev old
    → doing_weight w limit (with_want doing new) + want_weight w old ≡ doing_weight w limit doing + want_weight w new
want_changes w limit (Drives bio (ToCut has)) dev old new h = let q = ap (want_weight w) h.1 in omega (arith, q)
want_changes w limit (Copies bio master leg has) dev old new h = let q = ap (want_weight w) h.1 in omega (arith, q)
want_changes w limit (Drives bio ToPush) dev old new h = absurd h
want_changes w limit (Drives bio ToRecord) dev old new h = absurd h
want_changes w limit (Drives bio (ToMaster slip)) dev old new h = absurd h
want_changes w limit Rests dev old new h = absurd h
want_changes w limit (Breaks breach kept) dev old new h = absurd h

-- lists are what is punted and what is not
pub punted_weight : (g : Item Pad → ℕ) (dev : DevId) (lists : TaskLists)
    → sum_by g (punted (Of dev) lists) + sum_by g (unpunted (Of dev) lists).list0 + sum_by g (unpunted (Of dev) lists).list1 ≡ sum_by g lists.list0 + sum_by g lists.list1
punted_weight g dev lists =
    let p : Item Pad → Bool = is_of (Of dev) in
    let q : Item Pad → Bool = is_of_other (Of dev) in
    omega (arith, sum_by-append g (filter p lists.list0) (filter p lists.list1), sum_by-filter_both p q (λ x. refl) g lists.list0, sum_by-filter_both p q (λ x. refl) g lists.list1)

-- where nothing that is in hand weighs, nothing that is wanted does, nothing that is asked, and nothing that a writer has taken
module _ (w : Weight) (hand_nil : (item : Item Pad) → w.hand item ≡ 0) where
  pub want_nil : (want : Want) → want_weight w want ≡ 0
  want_nil (Takes waits) = refl
  want_nil WantsPunt = refl
  want_nil (Links hand) = hand_nil hand

  pub ask_nil : ((slip : SlipItem) → w.slip slip ≡ 0) → (ask : Driving) → ask_weight w ask ≡ 0
  ask_nil slip_nil ToPush = refl
  ask_nil slip_nil (ToCut want) = want_nil want
  ask_nil slip_nil ToRecord = refl
  ask_nil slip_nil (ToMaster slip) = slip_nil slip

  pub taken_nil : ((vector : VectorItem) → w.vector vector ≡ 0) → (taken : Gathered) → gathered_weight w taken ≡ 0
  taken_nil vector_nil NoBio = refl
  taken_nil vector_nil (HasBio bio) = hand_nil bio
  taken_nil vector_nil (HasBoth bio vector) = omega (arith, hand_nil bio, vector_nil vector)
