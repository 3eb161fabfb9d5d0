-- What is so of each bio that is a part of all sums over places, is so of each bio at work. So it is with what a weight that is 0 says of a bio,
-- where the sum over all places is 0.
use Rattle.std.proofs.Common.{◌≡◌, ◌<◌, ℕ, List, [], ◌∷◌, arith}
use Rattle.std.specs.Prelude.{sum_by, All}
use Rattle.std.proofs.lemmas.List.Elements.{All-nil, All-cons}
use Rattle.std.proofs.lemmas.List.Sums.{sum_by-cons}
use Rattle.bio_records.specs.declared.bio.Bio.{Bio}
use Rattle.bio_records.specs.declared.bio.Pad.{Pad}
use Rattle.bio_records.specs.declared.tasks.TaskLists.{TaskLists}
use Rattle.bio_records.specs.Items.{Item}
use Rattle.model_disks.specs.Disks.{DiskState}
use Rattle.run_machine.specs.Scene.{Scene, tree_at}
use Rattle.run_machine.specs.Submissions.{Doing, Rests, Drives, Copies, Breaks, Submission, legs_of}
use Rattle.run_machine.specs.Tasks.{Carried, Empty, Brings, Carries, Fails, TaskState, Writer, Rescuer, Completer, Keeper}
use Rattle.run_machine.specs.Runs.{State}
use Rattle.block_core.specs.Weights.{Weight, Spot, Lined, Rescued, Pending, Brought, total_weight, doing_weight, submission_weight, task_weight, carried_weight}
use Rattle.block_core.specs.EachBio.{DoingHas, SubmissionHas, CarriedHas, TaskHas, EachBio, DoingCopies, TaskCopies, EachCopied}
use Rattle.block_core.proofs.sound.Invariant.{DoingFits, TaskIsSound, Invariant}
use Rattle.block_core.proofs.moves.SumsCompared.{IsPart}
use Rattle.block_core.proofs.moves.Totals.{part_of}

module _ (scene : Scene) (s : State) (P : Item Pad → Type 0) (is : (spot : Spot) (item : Item Pad) → IsPart scene s (λ w. w.bio spot item) → P item) where
  of_list : (spot : Spot) (items : List (Item Pad)) → IsPart scene s (λ w. sum_by (w.bio spot) items) → All P items
  of_list spot [] part = All-nil P
  of_list spot (item ∷ items) part =
      All-cons P item items (is spot item (λ w. omega (arith, part w, sum_by-cons (w.bio spot) item items)))
      (of_list spot items (λ w. omega (arith, part w, sum_by-cons (w.bio spot) item items)))

  of_doing : (limit : ℕ) (doing : Doing) → IsPart scene s (λ w. doing_weight w limit doing) → DoingHas P doing
  of_doing limit Rests part = tt
  of_doing limit (Drives bio ask) part = is (Lined limit) bio (λ w. omega (arith, part w))
  of_doing limit (Copies bio master leg want) part = tt
  of_doing limit (Breaks breach kept) part = tt

  of_submission : (limit : ℕ) (submission : Submission) → IsPart scene s (λ w. submission_weight w limit submission) → SubmissionHas P submission
  of_submission limit submission part = (
    of_doing limit submission.doing (λ w. omega (arith, part w)),
    of_list (Lined limit) submission.lists.list0 (λ w. omega (arith, part w)),
    of_list (Lined limit) submission.lists.list1 (λ w. omega (arith, part w)),
  )

  of_carried : (place : ℕ) (carried : Carried) → IsPart scene s (λ w. carried_weight w place carried) → CarriedHas P carried
  of_carried place Empty part = tt
  of_carried place (Brings bio status) part = is Brought bio part
  of_carried place (Carries writer closed) part = tt
  of_carried place (Fails breach kept) part = tt

  of_task : (place : ℕ) (x : TaskState) → IsPart scene s (λ w. task_weight w place x) → TaskHas P x
  of_task place (Writer number todo taken submission) part = of_submission 32 submission (λ w. omega (arith, part w))
  of_task place (Rescuer dev submission) part = of_submission dev.0 submission part
  of_task place (Completer disk carried) part = of_carried place carried part
  of_task place (Keeper keeping) part = tt

  pub each_part : EachBio P scene s
  each_part = record {
    tasks = λ place lt. of_task place (s.task place) (λ w. omega (arith, part_of (task_weight w) scene.tasks s.task place lt));
    rescued = λ dev lt.
        of_list Rescued (s.objects.rescue dev) (λ w. omega (arith, part_of (λ dev bios. sum_by (w.bio Rescued) bios) scene.setup.count s.objects.rescue dev lt));
    pending = λ dev lt.
        of_list Pending (s.objects.disk dev).pending
        (λ w. omega (arith, part_of (λ dev (disk : DiskState). sum_by (w.bio Pending) disk.pending) scene.setup.count s.objects.disk dev lt));
  }

pub each_bio : (P : Item Pad → Type 0) (w : Weight) → ((spot : Spot) (item : Item Pad) → w.bio spot item ≡ 0 → P item) → (scene : Scene) (s : State) → total_weight scene w s ≡ 0 → EachBio P scene s
each_bio P w is scene s none = each_part scene s P (λ spot item part. is spot item (omega (arith, none, part w)))

-- and so it is with a bio that a mirror copies, of which a leg is left
module _ (scene : Scene) (s : State) (i : Invariant scene s) (P : Bio → ℕ → Type 0)
    (is : (bio : Bio) (master leg : ℕ) → leg < legs_of (tree_at scene.setup bio.dev) → IsPart scene s (λ w. w.copy bio master leg) → P bio master) where
  of_copying : (limit : ℕ) (doing : Doing) (lists : TaskLists) → DoingFits scene.setup doing lists → IsPart scene s (λ w. doing_weight w limit doing) → DoingCopies P doing
  of_copying limit Rests lists fits part = tt
  of_copying limit (Drives bio ask) lists fits part = tt
  of_copying limit (Copies bio master leg want) lists fits part = is bio master leg fits (λ w. omega (arith, part w))
  of_copying limit (Breaks breach kept) lists fits part = tt

  of_copier : (place : ℕ) (x : TaskState) → TaskIsSound scene x → IsPart scene s (λ w. task_weight w place x) → TaskCopies P x
  of_copier place (Writer number todo taken submission) fits part = of_copying 32 submission.doing submission.lists fits.1 (λ w. omega (arith, part w))
  of_copier place (Rescuer dev submission) fits part = of_copying dev.0 submission.doing submission.lists fits.1 (λ w. omega (arith, part w))
  of_copier place (Completer disk carried) fits part = tt
  of_copier place (Keeper keeping) fits part = tt

  pub each_copied_part : EachCopied P scene s
  each_copied_part place lt = of_copier place (s.task place) (i.tasks place) (λ w. omega (arith, part_of (task_weight w) scene.tasks s.task place lt))

pub each_copied : (P : Bio → ℕ → Type 0) (w : Weight) → ((bio : Bio) (master leg : ℕ) → w.copy bio master leg ≡ 0 → P bio master) → (scene : Scene) (s : State) → Invariant scene s
    → total_weight scene w s ≡ 0 → EachCopied P scene s
each_copied P w is scene s i none = each_copied_part scene s i P (λ bio master leg lt part. is bio master leg (omega (arith, none, part w)))
