-- A sum over all places is no more than another one where no part weighs more.
use Rattle.std.proofs.Common.{◌≡◌, ◌<◌, ◌≤◌, ℕ, zero, suc, List, [], ◌∷◌, length, Option, None, Some, refl, ap, arith}
use Rattle.std.specs.Prelude.{sum_by}
use Rattle.std.proofs.lemmas.List.Sums.{sum_by-cons}
use Rattle.bio_records.specs.declared.bio.Bio.{Bio}
use Rattle.bio_records.specs.declared.bio.Pad.{Pad}
use Rattle.bio_records.specs.Items.{Item}
use Rattle.bio_books.specs.Books.{Node, VectorItem, SlipItem, node_at}
use Rattle.bio_books.specs.Drops.{Closed}
use Rattle.model_disks.specs.Disks.{DiskState}
use Rattle.run_machine.specs.Scene.{Scene, tree_at}
use Rattle.run_machine.specs.Submissions.{Want, Takes, WantsPunt, Links, Driving, ToPush, ToCut, ToRecord, ToMaster, Doing, Rests, Drives, Copies, Breaks, Submission, legs_of}
use Rattle.run_machine.specs.Tasks.{Todo, Gathered, NoBio, HasBio, HasBoth, Carried, Empty, Brings, Carries, Fails, TaskState, Writer, Rescuer, Completer, Keeper}
use Rattle.run_machine.specs.Runs.{State}
use Rattle.block_core.specs.Weights.{Weight, Spot, Lined, Rescued, Pending, Brought, total_weight, sum_at, weigh_option, want_weight, ask_weight, doing_weight, submission_weight, gathered_weight, carried_weight, task_weight, book_weight}
use Rattle.block_core.proofs.sound.Invariant.{DoingFits, TaskIsSound, Invariant}
use Rattle.block_core.proofs.moves.Totals.{part_of}

-- whatever the weight, this is a part of the sum
abbrev pub IsPart : Scene → State → (Weight → ℕ) → Type 0
IsPart scene s part = (w : Weight) → part w ≤ total_weight scene w s

-- of no part more than of another weight
pub record IsUnder (scene : Scene) (s : State) (u v : Weight) : Type 0 where
  pub todo : (writer : ℕ) (todos : List Todo) (taken : Gathered) → IsPart scene s (λ w. w.todo writer todos taken) → u.todo writer todos taken ≤ v.todo writer todos taken
  pub bio : (spot : Spot) (item : Item Pad) → IsPart scene s (λ w. w.bio spot item) → u.bio spot item ≤ v.bio spot item
  -- a leg is left
  pub copy : (bio : Bio) (master leg : ℕ) → leg < legs_of (tree_at scene.setup bio.dev) → IsPart scene s (λ w. w.copy bio master leg)
      → u.copy bio master leg ≤ v.copy bio master leg
  pub hand : (item : Item Pad) → u.hand item ≤ v.hand item
  pub vector : (vector : VectorItem) → u.vector vector ≤ v.vector vector
  pub slip : (slip : SlipItem) → u.slip slip ≤ v.slip slip
  pub node : (writer place : ℕ) (node : Node) → node_at (s.objects.book writer) place ≡ Some node → IsPart scene s (λ w. w.node writer place node)
      → u.node writer place node ≤ v.node writer place node
  pub closed : (task writer : ℕ) (closed : Closed) → IsPart scene s (λ w. w.closed task writer closed) → u.closed task writer closed ≤ v.closed task writer closed

at_under : {X : Type 0} (u v : ℕ → X → ℕ) (n : ℕ) (f : ℕ → X) → ((i : ℕ) → i < n → u i (f i) ≤ v i (f i)) → sum_at u n f ≤ sum_at v n f
unfolding sum_at
at_under u v zero f le = omega arith
at_under u v (suc n) f le = omega (arith, at_under u v n f (λ i lt. le i (omega (arith, lt))), le n (omega arith))

list_under : {X : Type 0} (u v : X → ℕ) (xs : List X) → ((x : X) → ((g : X → ℕ) → g x ≤ sum_by g xs) → u x ≤ v x) → sum_by u xs ≤ sum_by v xs
list_under u v [] le = omega arith
list_under {X = X} u v (x ∷ xs) le =
    omega (
      arith,
      sum_by-cons u x xs,
      sum_by-cons v x xs,
      le x (λ g. omega (arith, sum_by-cons g x xs)),
      list_under u v xs (λ y part. le y (λ (g : X → ℕ). omega (arith, sum_by-cons g x xs, part g))),
    )

module _ (scene : Scene) (s : State) (i : Invariant scene s) (u v : Weight) (le : IsUnder scene s u v) where
  want_under : (want : Want) → want_weight u want ≤ want_weight v want
  want_under (Takes waits) = omega arith
  want_under WantsPunt = omega arith
  want_under (Links hand) = le.hand hand

  ask_under : (ask : Driving) → ask_weight u ask ≤ ask_weight v ask
  ask_under ToPush = omega arith
  ask_under (ToCut want) = want_under want
  ask_under ToRecord = omega arith
  ask_under (ToMaster slip) = le.slip slip

  bios_under : (spot : Spot) (items : List (Item Pad)) → IsPart scene s (λ w. sum_by (w.bio spot) items) → sum_by (u.bio spot) items ≤ sum_by (v.bio spot) items
  bios_under spot items part = list_under (u.bio spot) (v.bio spot) items (λ item within. le.bio spot item (λ w. omega (arith, within (w.bio spot), part w)))

  submission_under : (limit : ℕ) (doing : Doing) (submission : Submission) → submission.doing ≡ doing → DoingFits scene.setup doing submission.lists → IsPart scene s (λ w. submission_weight w limit submission)
      → submission_weight u limit submission ≤ submission_weight v limit submission
  submission_under limit doing submission is fits part =
      let weighs : (w : Weight) → doing_weight w limit submission.doing ≡ doing_weight w limit doing = λ w. ap (doing_weight w limit) is in
      omega (
        arith,
        weighs u,
        weighs v,
        by_doing doing fits (λ w. omega (arith, weighs w, part w)),
        bios_under (Lined limit) submission.lists.list0 (λ w. omega (arith, part w)),
        bios_under (Lined limit) submission.lists.list1 (λ w. omega (arith, part w)),
      )
    where
      by_doing : (doing : Doing) → DoingFits scene.setup doing submission.lists → IsPart scene s (λ w. doing_weight w limit doing) → doing_weight u limit doing ≤ doing_weight v limit doing
      by_doing Rests fits part = omega arith
      by_doing (Drives bio ask) fits part = omega (arith, le.bio (Lined limit) bio (λ w. omega (arith, part w)), ask_under ask)
      by_doing (Copies bio master leg want) fits part = omega (arith, le.copy bio master leg fits (λ w. omega (arith, part w)), want_under want)
      by_doing (Breaks breach kept) fits part = omega arith

  taken_under : (taken : Gathered) → gathered_weight u taken ≤ gathered_weight v taken
  taken_under NoBio = omega arith
  taken_under (HasBio bio) = le.hand bio
  taken_under (HasBoth bio vector) = omega (arith, le.hand bio, le.vector vector)

  carried_under : (place : ℕ) (carried : Carried) → IsPart scene s (λ w. carried_weight w place carried) → carried_weight u place carried ≤ carried_weight v place carried
  carried_under place Empty part = omega arith
  carried_under place (Brings bio status) part = le.bio Brought bio part
  carried_under place (Carries writer closed) part = le.closed place writer closed part
  carried_under place (Fails breach kept) part = omega arith

  task_under : (place : ℕ) (x : TaskState) → TaskIsSound scene x → IsPart scene s (λ w. task_weight w place x) → task_weight u place x ≤ task_weight v place x
  task_under place (Writer number todos taken submission) fits part =
      omega (
        arith,
        le.todo number todos taken (λ w. omega (arith, part w)),
        taken_under taken,
        submission_under 32 submission.doing submission refl fits.1 (λ w. omega (arith, part w)),
      )
  task_under place (Rescuer dev submission) fits part = submission_under dev.0 submission.doing submission refl fits.1 part
  task_under place (Completer disk carried) fits part = carried_under place carried part
  task_under place (Keeper keeping) fits part = omega arith

  node_under : (writer place : ℕ) (found : Option Node) → node_at (s.objects.book writer) place ≡ found → IsPart scene s (λ w. weigh_option (w.node writer place) found)
      → weigh_option (u.node writer place) found ≤ weigh_option (v.node writer place) found
  node_under writer place None at part = omega arith
  node_under writer place (Some node) at part = le.node writer place node at part

  pub under_in_all : total_weight scene u s ≤ total_weight scene v s
  under_in_all =
      omega (
        arith,
        at_under (task_weight u) (task_weight v) scene.tasks s.task
            (λ place lt. task_under place (s.task place) (i.tasks place) (λ w. omega (arith, part_of (task_weight w) scene.tasks s.task place lt))),
        at_under (λ dev bios. sum_by (u.bio Rescued) bios) (λ dev bios. sum_by (v.bio Rescued) bios) scene.setup.count s.objects.rescue
            (λ dev lt. bios_under Rescued (s.objects.rescue dev) (λ w. omega (arith, part_of (λ dev bios. sum_by (w.bio Rescued) bios) scene.setup.count s.objects.rescue dev lt))),
        at_under (λ dev (disk : DiskState). sum_by (u.bio Pending) disk.pending) (λ dev (disk : DiskState). sum_by (v.bio Pending) disk.pending) scene.setup.count s.objects.disk
            (λ dev lt. bios_under Pending (s.objects.disk dev).pending
            (λ w. omega (arith, part_of (λ dev (disk : DiskState). sum_by (w.bio Pending) disk.pending) scene.setup.count s.objects.disk dev lt))),
        at_under (book_weight u) (book_weight v) scene.books s.objects.book
            (λ writer lt. at_under (λ place. weigh_option (u.node writer place)) (λ place. weigh_option (v.node writer place)) (length (s.objects.book writer).nodes)
            (node_at (s.objects.book writer))
            (λ place within. node_under writer place (node_at (s.objects.book writer) place) refl
            (λ w. omega (
              arith,
              part_of (λ place. weigh_option (w.node writer place)) (length (s.objects.book writer).nodes) (node_at (s.objects.book writer)) place within,
              part_of (book_weight w) scene.books s.objects.book writer lt,
            )))),
      )
