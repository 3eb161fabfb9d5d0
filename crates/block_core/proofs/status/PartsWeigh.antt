-- What is at work weighs no more than all does, and where all weighs, something does.
use Rattle.std.proofs.Common.{◌≡◌, ◌+◌, ◌<◌, ◌≤◌, ◌⊎◌, ℕ, zero, suc, List, [], ◌∷◌, length, Option, None, Some, inl, inr, refl, sym, ap, subst, arith}
use Rattle.std.specs.Prelude.{sum_by, Contains}
use Rattle.std.specs.List.{range_with_len}
use Rattle.std.proofs.lemmas.List.Sums.{sum_by-cons}
use Rattle.stack_base.specs.declared.ids.DevId.{DevId}
use Rattle.stack_base.proofs.NumberLemmas.{zero_or}
use Rattle.bio_records.specs.declared.bio.Bio.{Bio}
use Rattle.bio_records.specs.declared.bio.Pad.{Pad}
use Rattle.bio_records.specs.Items.{Item}
use Rattle.bio_books.specs.Books.{Node, VectorItem, SlipItem, node_at}
use Rattle.bio_books.specs.Drops.{Closed}
use Rattle.model_disks.specs.Disks.{DiskState}
use Rattle.run_machine.specs.Scene.{Scene}
use Rattle.run_machine.specs.Submissions.{Want, Doing, Rests, Drives, Copies, Breaks, Submission}
use Rattle.run_machine.specs.Tasks.{Todo, Gathered, Carried, Empty, Brings, Carries, Fails, TaskState, Writer, Rescuer, Completer, Keeper}
use Rattle.run_machine.specs.Runs.{State}
use Rattle.block_core.specs.Weights.{Weight, Spot, Lined, Rescued, Pending, Brought, sum_at, weigh_option, doing_weight, submission_weight, want_weight, ask_weight, task_weight, book_weight, total_weight}
use Rattle.block_core.specs.AtWork.{DoingHolds, SubmissionHolds, CarriedHolds, SubmissionOf, IsBrought, IsInDisk, IsAtWork}
use Rattle.block_core.proofs.images.PlannedOnce.{term_in}
use Rattle.block_core.proofs.moves.Totals.{part_of, task_part}
use Rattle.block_core.proofs.stuck.NothingWaits.{some_place}
use Rattle.block_core.proofs.moves.SubmissionWeights.{want_nil, ask_nil, taken_nil}

pub some_in : {X : Type 0} (f : X → ℕ) (xs : List X) → 1 ≤ sum_by f xs → (x : X) × Contains xs x × (1 ≤ f x)
some_in f [] h = absurd (omega (arith, h))
some_in {X = X} f (x ∷ xs) h = elim (zero_or (f x)) [
  | inl none ↦ let r = some_in f xs (omega (arith, h, none, sum_by-cons f x xs)) in (r.0, more r.0 r.1, r.2)
  | inr some ↦ (x, (0, omega arith, refl), some)
]
  where
    more : (y : X) → Contains xs y → Contains (x ∷ xs) y
    more y (k, lt, at) = (suc k, omega (arith, lt), at)

same_or : (a k : ℕ) → a ≤ k → (a ≡ k) ⊎ (a + 1 ≤ k)
same_or a k le = grind (arith, le)

-- a number of a range
pub in_range : (f : ℕ → ℕ) (n a k : ℕ) → a ≤ k → k < a + n → f k ≤ sum_by f (range_with_len a n)
in_range f zero a k ge lt = absurd (omega (arith, ge, lt))
in_range f (suc n) a k ge lt = elim (same_or a k ge) [
  | inl e ↦ let same : f a ≡ f k = ap f e in omega (arith, same, sum_by-cons f a (range_with_len (a + 1) n))
  | inr less ↦ omega (arith, in_range f n (a + 1) k (omega (arith, less)) (omega (arith, lt)), sum_by-cons f a (range_with_len (a + 1) n))
]

pub some_in_range : (f : ℕ → ℕ) (n a : ℕ) → 1 ≤ sum_by f (range_with_len a n) → (k : ℕ) × (a ≤ k) × (k < a + n) × (1 ≤ f k)
some_in_range f zero a h = absurd (omega (arith, h))
some_in_range f (suc n) a h = elim (zero_or (f a)) [
  | inl none ↦
      let r = some_in_range f n (a + 1) (omega (arith, h, none, sum_by-cons f a (range_with_len (a + 1) n))) in
      let ge = r.1 in let lt = r.2 in (r.0, omega (arith, ge), omega (arith, lt), r.3)
  | inr some ↦ (a, omega arith, omega arith, some)
]

module _ (scene : Scene) (s : State) (w : Weight) where
  submission_of_task : (place : ℕ) (x : TaskState) (submission : Submission) → SubmissionOf x submission → (limit : ℕ) × (submission_weight w limit submission ≤ task_weight w place x)
  submission_of_task place (Writer number todo taken own) submission is = (32, let e : submission_weight w 32 own ≡ submission_weight w 32 submission = ap (submission_weight w 32) is in omega (arith, e))
  submission_of_task place (Rescuer dev own) submission is = (dev.0, let e : submission_weight w dev.0 own ≡ submission_weight w dev.0 submission = ap (submission_weight w dev.0) is in omega (arith, e))
  submission_of_task place (Completer disk carried) submission is = absurd is
  submission_of_task place (Keeper keeping) submission is = absurd is

  -- a submission that a task has
  pub submission_within : (place : ℕ) (submission : Submission) → place < scene.tasks → SubmissionOf (s.task place) submission → (limit : ℕ) × (submission_weight w limit submission ≤ total_weight scene w s)
  submission_within place submission lt is =
      let r = submission_of_task place (s.task place) submission is in
      let le = r.1 in
      (r.0, omega (arith, le, part_of (task_weight w) scene.tasks s.task place lt))

  pub in_disk : (item : Item Pad) → IsInDisk scene s item → w.bio Pending item ≤ total_weight scene w s
  in_disk item (dev, lt, has) =
      omega (
        arith,
        term_in (w.bio Pending) (s.objects.disk dev).pending item has,
        part_of (λ dev (disk : DiskState). sum_by (w.bio Pending) disk.pending) scene.setup.count s.objects.disk dev lt,
      )

  pub is_brought : (item : Item Pad) → IsBrought scene s item → w.bio Brought item ≤ total_weight scene w s
  is_brought item (place, disk, carried, lt, is, holds) = by_carried carried is holds
    where
      by_carried : (carried : Carried) → s.task place ≡ Completer disk carried → CarriedHolds item carried → w.bio Brought item ≤ total_weight scene w s
      by_carried Empty is holds = absurd holds
      by_carried (Brings bio status) is holds =
          let e : w.bio Brought bio ≡ w.bio Brought item = ap (w.bio Brought) holds in
          omega (arith, e, task_part scene w s place (Completer disk (Brings bio status)) lt is)
      by_carried (Carries writer closed) is holds = absurd holds
      by_carried (Fails breach kept) is holds = absurd holds

  -- a bio at work
  pub at_work : (item : Item Pad) → IsAtWork scene s item → (spot : Spot) × (w.bio spot item ≤ total_weight scene w s)
  at_work item (inl (place, submission, lt, is, holds)) =
      let r = submission_within place submission lt is in
      let le = r.1 in
      (Lined r.0, by_submission holds r.0 le)
    where
      by_doing : (limit : ℕ) (doing : Doing) → DoingHolds item doing → w.bio (Lined limit) item ≤ doing_weight w limit doing
      by_doing limit Rests holds = absurd holds
      by_doing limit (Drives bio ask) holds = let e : w.bio (Lined limit) bio ≡ w.bio (Lined limit) item = ap (w.bio (Lined limit)) holds in omega (arith, e)
      by_doing limit (Copies bio master leg want) holds = absurd holds
      by_doing limit (Breaks breach kept) holds = absurd holds

      by_submission : SubmissionHolds item submission → (limit : ℕ) → submission_weight w limit submission ≤ total_weight scene w s → w.bio (Lined limit) item ≤ total_weight scene w s
      by_submission (inl driven) limit le = omega (arith, le, by_doing limit submission.doing driven)
      by_submission (inr (inl listed)) limit le = omega (arith, le, term_in (w.bio (Lined limit)) submission.lists.list0 item listed)
      by_submission (inr (inr listed)) limit le = omega (arith, le, term_in (w.bio (Lined limit)) submission.lists.list1 item listed)
  at_work item (inr (inl brought)) = (Brought, is_brought item brought)
  at_work item (inr (inr (inl (dev, lt, has)))) = (
    Rescued,
    omega (
      arith,
      term_in (w.bio Rescued) (s.objects.rescue dev) item has,
      part_of (λ dev bios. sum_by (w.bio Rescued) bios) scene.setup.count s.objects.rescue dev lt,
    ),
  )
  at_work item (inr (inr (inr pending))) = (Pending, in_disk item pending)

  -- what weighs: a bio at work, one that a mirror copies, an open node, or what is left of one
  abbrev pub BioWeighs : Type 0
  BioWeighs = (item : Item Pad) × (spot : Spot) × IsAtWork scene s item × (1 ≤ w.bio spot item)

  abbrev pub CopyWeighs : Type 0
  CopyWeighs =
      (place : ℕ) × (submission : Submission) × (bio : Bio) × (master : ℕ) × (leg : ℕ) × (want : Want) × (place < scene.tasks) × SubmissionOf (s.task place) submission
      × (submission.doing ≡ Copies bio master leg want) × (1 ≤ w.copy bio master leg)

  abbrev pub NodeWeighs : Type 0
  NodeWeighs = (writer : ℕ) × (place : ℕ) × (node : Node) × (node_at (s.objects.book writer) place ≡ Some node) × (1 ≤ w.node writer place node)

  abbrev pub ClosedWeighs : Type 0
  ClosedWeighs =
      (place : ℕ) × (disk : DevId) × (writer : ℕ) × (closed : Closed) × (place < scene.tasks) × (s.task place ≡ Completer disk (Carries writer closed))
      × (1 ≤ w.closed place writer closed)

  abbrev pub Weighs : Type 0
  Weighs = BioWeighs ⊎ CopyWeighs ⊎ NodeWeighs ⊎ ClosedWeighs

  -- where nothing else does
  pub record IsOfWork : Type 0 where
    pub todo : (writer : ℕ) (todos : List Todo) (taken : Gathered) → w.todo writer todos taken ≡ 0
    pub hand : (item : Item Pad) → w.hand item ≡ 0
    pub vector : (vector : VectorItem) → w.vector vector ≡ 0
    pub slip : (slip : SlipItem) → w.slip slip ≡ 0

  module _ (o : IsOfWork) where
    submission_weighs : (place : ℕ) (submission : Submission) (limit : ℕ) → place < scene.tasks → SubmissionOf (s.task place) submission → 1 ≤ submission_weight w limit submission → Weighs
    submission_weighs place submission limit lt is some = by_doing submission.doing refl some
      where
        -- one of the lists does
        by_lists : 1 ≤ sum_by (w.bio (Lined limit)) submission.lists.list0 + sum_by (w.bio (Lined limit)) submission.lists.list1 → Weighs
        by_lists some = elim (zero_or (sum_by (w.bio (Lined limit)) submission.lists.list0)) [
          | inl none ↦
              let r = some_in (w.bio (Lined limit)) submission.lists.list1 (omega (arith, some, none)) in
              inl (r.0, Lined limit, inl (place, submission, lt, is, inr (inr r.1)), r.2)
          | inr more ↦
              let r = some_in (w.bio (Lined limit)) submission.lists.list0 more in
              inl (r.0, Lined limit, inl (place, submission, lt, is, inr (inl r.1)), r.2)
        ]

        by_doing : (doing : Doing) → submission.doing ≡ doing → 1 ≤ doing_weight w limit submission.doing + sum_by (w.bio (Lined limit)) submission.lists.list0 + sum_by (w.bio (Lined limit)) submission.lists.list1 → Weighs
        by_doing Rests q some = let e : doing_weight w limit submission.doing ≡ 0 = ap (doing_weight w limit) q in by_lists (omega (arith, some, e))
        by_doing (Breaks breach kept) q some = let e : doing_weight w limit submission.doing ≡ 0 = ap (doing_weight w limit) q in by_lists (omega (arith, some, e))
        by_doing (Drives bio ask) q some =
            let e : doing_weight w limit submission.doing ≡ w.bio (Lined limit) bio + ask_weight w ask = ap (doing_weight w limit) q in
            elim (zero_or (w.bio (Lined limit) bio)) [
              | inl none ↦ by_lists (omega (arith, some, e, none, ask_nil w o.hand o.slip ask))
              | inr more ↦ inl (bio, Lined limit, inl (place, submission, lt, is, inl (subst (DoingHolds bio) (sym q) refl)), more)
            ]
        by_doing (Copies bio master leg want) q some =
            let e : doing_weight w limit submission.doing ≡ w.copy bio master leg + want_weight w want = ap (doing_weight w limit) q in
            elim (zero_or (w.copy bio master leg)) [
              | inl none ↦ by_lists (omega (arith, some, e, none, want_nil w o.hand want))
              | inr more ↦ inr (inl (place, submission, bio, master, leg, want, lt, is, q, more))
            ]

    task_weighs : (place : ℕ) (x : TaskState) → place < scene.tasks → s.task place ≡ x → 1 ≤ task_weight w place x → Weighs
    task_weighs place (Writer number todo taken submission) lt is some =
        submission_weighs place submission 32 lt (subst (λ t. SubmissionOf t submission) (sym is) refl) (omega (arith, some, o.todo number todo taken, taken_nil w o.hand o.vector taken))
    task_weighs place (Rescuer dev submission) lt is some = submission_weighs place submission dev.0 lt (subst (λ t. SubmissionOf t submission) (sym is) refl) some
    task_weighs place (Completer disk Empty) lt is some = absurd (omega (arith, some))
    task_weighs place (Completer disk (Brings bio status)) lt is some = inl (bio, Brought, inr (inl (place, disk, Brings bio status, lt, is, refl)), some)
    task_weighs place (Completer disk (Carries writer closed)) lt is some = inr (inr (inr (place, disk, writer, closed, lt, is, some)))
    task_weighs place (Completer disk (Fails breach kept)) lt is some = absurd (omega (arith, some))
    task_weighs place (Keeper keeping) lt is some = absurd (omega (arith, some))

    node_weighs : (writer place : ℕ) (found : Option Node) → node_at (s.objects.book writer) place ≡ found → 1 ≤ weigh_option (w.node writer place) found → Weighs
    node_weighs writer place None at some = absurd (omega (arith, some))
    node_weighs writer place (Some node) at some = inr (inr (inl (writer, place, node, at, some)))

    abbrev tasks_sum : ℕ
    tasks_sum = sum_at (task_weight w) scene.tasks s.task

    abbrev rescued_sum : ℕ
    rescued_sum = sum_at (λ dev bios. sum_by (w.bio Rescued) bios) scene.setup.count s.objects.rescue

    abbrev pending_sum : ℕ
    pending_sum = sum_at (λ dev (disk : DiskState). sum_by (w.bio Pending) disk.pending) scene.setup.count s.objects.disk

    abbrev books_sum : ℕ
    books_sum = sum_at (book_weight w) scene.books s.objects.book

    of_tasks : 1 ≤ tasks_sum → Weighs
    of_tasks some = let r = some_place (task_weight w) scene.tasks s.task some in task_weighs r.0 (s.task r.0) r.1 refl r.2

    of_rescued : 1 ≤ rescued_sum → Weighs
    of_rescued some =
        let r = some_place (λ dev bios. sum_by (w.bio Rescued) bios) scene.setup.count s.objects.rescue some in
        let b = some_in (w.bio Rescued) (s.objects.rescue r.0) r.2 in
        inl (b.0, Rescued, inr (inr (inl (r.0, r.1, b.1))), b.2)

    of_pending : 1 ≤ pending_sum → Weighs
    of_pending some =
        let r = some_place (λ dev (disk : DiskState). sum_by (w.bio Pending) disk.pending) scene.setup.count s.objects.disk some in
        let b = some_in (w.bio Pending) (s.objects.disk r.0).pending r.2 in
        inl (b.0, Pending, inr (inr (inr (r.0, r.1, b.1))), b.2)

    of_books : 1 ≤ books_sum → Weighs
    of_books some =
        let r = some_place (book_weight w) scene.books s.objects.book some in
        let b = some_place (λ place. weigh_option (w.node r.0 place)) (length (s.objects.book r.0).nodes) (node_at (s.objects.book r.0)) r.2 in
        node_weighs r.0 b.0 (node_at (s.objects.book r.0) b.0) refl b.2

    pub some_weighs : 1 ≤ total_weight scene w s → Weighs
    some_weighs some = elim (zero_or tasks_sum) [
      | inr more ↦ of_tasks more
      | inl none ↦ elim (zero_or rescued_sum) [
        | inr more ↦ of_rescued more
        | inl also ↦ elim (zero_or pending_sum) [
          | inr more ↦ of_pending more
          | inl too ↦ of_books (omega (arith, some, none, also, too))
        ]
      ]
    ]
