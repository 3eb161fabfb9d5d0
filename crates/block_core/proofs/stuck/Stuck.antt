-- No state is stuck: while a write is unfinished some event needs no ordinary memory.
use Rattle.std.proofs.Common.{◌≡◌, ◌+◌, ◌<◌, ◌≤◌, ◌==◌, ◌⊎◌, ℕ, zero, suc, true, IsTrue, List, [], ◌∷◌, length, Option, None, Some, inl, inr, refl, sym, ◌∙◌, ap, subst, arith}
use Rattle.std.specs.Prelude.{slice_index_or, sum, sum_by}
use Rattle.std.proofs.lemmas.Bool.{eq-eqb}
use Rattle.stack_base.specs.declared.ids.DevId.{DevId}
use Rattle.stack_base.specs.PoolId.{pool_number}
use Rattle.stack_base.proofs.ListLemmas.{Each}
use Rattle.stack_base.proofs.NumberLemmas.{zero_or}
use Rattle.mempool_core.specs.Move.{resizes}
use Rattle.bio_records.specs.declared.tasks.TaskLists.{TaskLists}
use Rattle.bio_books.specs.Books.{Node, node_at}
use Rattle.model_disks.specs.Disks.{DiskState}
use Rattle.run_machine.specs.Scene.{Setup, Scene}
use Rattle.run_machine.specs.Submissions.{Doing, Rests, Drives, Copies, Breaks, Submission}
use Rattle.run_machine.specs.Tasks.{TaskState, Writer, Rescuer, Completer, Keeper, Keeping, Keeps, Stops, Resizes, Starts, Todo, Gathered, NoBio, HasBio, HasBoth, Carried, Empty, Brings, Carries, Fails}
use Rattle.run_machine.specs.Runs.{State}
use Rattle.run_machine.specs.Opened.{from_round}
use Rattle.block_core.specs.Weights.{Weight, Pending, Rescued, sum_at, weigh_option, task_weight, gathered_weight, book_weight}
use Rattle.block_core.proofs.moves.Moves.{with_pool}
use Rattle.block_core.proofs.moves.Sums.{one-other, same_or_not}
use Rattle.block_core.proofs.sound.Invariant.{DoingFits, TaskIsSound}
use Rattle.block_core.proofs.sound.TaskSubmissions.{IsBusy}
use Rattle.block_core.proofs.sound.Orders.{DoingPlaced, TaskPlaced, each_map}
use Rattle.run_machine.specs.Scene.{is_disk}
use Rattle.run_machine.specs.declared.event.TaskId.{TaskId}
use Rattle.run_machine.specs.declared.event.TaskId.TheVariants as id
use Rattle.run_machine.specs.declared.event.What.TheVariants as what
use Rattle.run_machine.specs.Requests as requests
use Rattle.run_machine.specs.Events.{id_of}
use Rattle.run_machine.specs.Runs.{HasFree, HasEnded, unfinished}
use Rattle.block_core.specs.Rooms.{HasRoomInBooks}
use Rattle.block_core.proofs.sound.OffLevels.{off_levels}
use Rattle.block_core.specs.Rounds.{round_of, is_of_round, all_worth, unfinished_of}
use Rattle.block_core.proofs.sound.EventStages.{zeros, submission_zero}
use Rattle.block_core.proofs.sound.Rounds.{TodosFit, TaskRounds, Tallied}
use Rattle.block_core.proofs.unrefused.NodeNeeds.{Needs}
use Rattle.block_core.proofs.sound.TaskPosts.{ByRounds, starts, AtPost, Posted}
use Rattle.block_core.proofs.stuck.NothingWaits.{IsPool, spares, StillDoing, StillTaken, StillWriter, IsStill, AllStill, some_place, submission_below}
use Rattle.block_core.proofs.stuck.WaitersBelow.{WaitInvariant, none_open, all_home, has_spare}
use Rattle.block_core.proofs.stuck.Frees.{task_free}
use Rattle.block_core.proofs.stuck.FreeEvents.{HasNumbers, free_of}

-- a search over the numbers below n
find : (F : Type 0) (P : ℕ → Type 0) (n : ℕ) → ((k : ℕ) → k < n → F ⊎ P k) → F ⊎ ((k : ℕ) → k < n → P k)
find F P zero h = inr (λ k lt. absurd (omega (arith, lt)))
find F P (suc n) h =
    elim (find F P n (λ k lt. h k (omega (arith, lt)))) [
      | inl a ↦ inl a
      | inr a ↦ elim (h n (omega arith)) [
        | inl b ↦ inl b
        | inr b ↦ inr (λ k lt. elim (same_or_not k n) [ inl e ↦ subst P (sym e) b | inr ne ↦ a k (omega (arith, lt, ne)) ])
      ]
    ]

-- the device of a task by its name
abbrev device_in : TaskId → ℕ
device_in (id.Writer number) = 0
device_in (id.Rescuer dev) = dev.0
device_in (id.Completer disk) = disk.0
device_in id.Keeper = 0

is_rescuer : (x : TaskState) (dev : DevId) → id_of x ≡ id.Rescuer dev → (submission : Submission) × (x ≡ Rescuer dev submission)
is_rescuer (Writer number todo taken submission) dev is = absurd cc
is_rescuer (Rescuer other submission) dev is = let e : other.0 ≡ dev.0 = ap device_in is in (submission, ap (λ n. Rescuer (record { 0 = n }) submission) e)
is_rescuer (Completer disk carried) dev is = absurd cc
is_rescuer (Keeper keeping) dev is = absurd cc

is_completer : (x : TaskState) (dev : DevId) → id_of x ≡ id.Completer dev → (carried : Carried) × (x ≡ Completer dev carried)
is_completer (Writer number todo taken submission) dev is = absurd cc
is_completer (Rescuer other submission) dev is = absurd cc
is_completer (Completer disk carried) dev is = let e : disk.0 ≡ dev.0 = ap device_in is in (carried, ap (λ n. Completer (record { 0 = n }) carried) e)
is_completer (Keeper keeping) dev is = absurd cc

is_keeper : (x : TaskState) → id_of x ≡ id.Keeper → (keeping : Keeping) × (x ≡ Keeper keeping)
is_keeper (Writer number todo taken submission) is = absurd cc
is_keeper (Rescuer other submission) is = absurd cc
is_keeper (Completer disk carried) is = absurd cc
is_keeper (Keeper keeping) is = (keeping, refl)

-- which tasks there are
pub record Crew (ids : ℕ → TaskId) (keeper : ℕ) (scene : Scene) : Type 0 where
  pub rescuers : (dev : ℕ) → dev < scene.setup.count → scene.setup.rescuer dev ≡ true → (place : ℕ) × (place < scene.tasks) × (ids place ≡ id.Rescuer (record { 0 = dev }))
  pub disks : (dev : ℕ) → is_disk scene.setup dev ≡ true → (place : ℕ) × (place < scene.tasks) × (ids place ≡ id.Completer (record { 0 = dev }))
  pub keeps : ids keeper ≡ id.Keeper

module _ (scene : Scene) (s : State) (level : ℕ → ℕ → ℕ) (known : WaitInvariant scene s level) (ids : ℕ → TaskId) (keeper : ℕ) (posted : Posted ids keeper scene s) (crew : Crew ids keeper scene)
    (rounds : List ℕ) (tallied : Tallied rounds keeper scene s) (no_more : from_round rounds (length s.objects.tally.left) ≡ 0)
    (n : Needs scene.setup) (r : HasRoomInBooks scene s) (numbers : HasNumbers s) where
  abbrev setup : Setup
  setup = scene.setup

  all_still_of : ((place : ℕ) → place < scene.tasks → IsStill s (s.task place)) → AllStill scene s
  all_still_of still = record {
    still = still;
    rescuers = λ dev lt has.
        let r = crew.rescuers dev lt has in
        let x = is_rescuer (s.task r.0) (record { 0 = dev }) ((posted.tasks r.0).0 ∙ r.2) in
        (r.0, x.0, r.1, x.1);
    disks = λ dev lt. by_disk dev (posted.disks dev);
  }
    where
      by_disk : (dev : ℕ) → ((s.objects.disk dev).pending ≡ []) ⊎ (is_disk setup dev ≡ true) → (s.objects.disk dev).pending ≡ []
      by_disk dev (inl none) = none
      by_disk dev (inr is) =
          let r = crew.disks dev is in
          let x = is_completer (s.task r.0) (record { 0 = dev }) ((posted.tasks r.0).0 ∙ r.2) in
          by_carried x.0 (subst (IsStill s) x.1 (still r.0 r.1))
        where
          by_carried : (carried : Carried) → IsStill s (Completer (record { 0 = dev }) carried) → (s.objects.disk dev).pending ≡ []
          by_carried Empty none = none
          by_carried (Brings bio status) none = absurd none
          by_carried (Carries w closed) none = absurd none
          by_carried (Fails breach kept) none = absurd none

  module _ (still : (place : ℕ) → place < scene.tasks → IsStill s (s.task place)) where
    all_still : AllStill scene s
    all_still = all_still_of still

    spare : (q : ℕ) → IsPool setup q → spares s q ≡ 0 → ⊥
    spare = has_spare scene s level known all_still

    abbrev now : ℕ
    now = s.objects.tally.round

    -- what a writer has to begin is of later rounds
    later_rounds : (todo : Todo) (todos : List Todo) → now < todo.round → ByRounds (todo ∷ todos) → Each (λ (t : Todo). now < t.round) (todo ∷ todos)
    later_rounds todo todos lt by = (lt, each_map (λ (t : Todo). todo.round ≤ t.round) (λ (t : Todo). now < t.round) (λ t le. omega (arith, le, lt)) todos by.0)

    writer_rests : (todo : List Todo) (taken : Gathered) → StillTaken s todo taken → ByRounds todo → Each (λ (t : Todo). now < t.round) todo
    writer_rests [] NoBio h by = tt
    writer_rests (todo ∷ todos) NoBio (inl held) by = later_rounds todo todos held by
    writer_rests (todo ∷ todos) NoBio (inr none) by = absurd (spare 65 (inl refl) none)
    writer_rests todo (HasBio item) h by = absurd (spare 64 (inr (inl refl)) h)
    writer_rests todo (HasBoth item vector) h by = absurd h

    busy_none : (limit : ℕ) (doing : Doing) (lists : TaskLists) → DoingFits setup doing lists → DoingPlaced setup limit doing lists → IsBusy doing → StillDoing s doing → ⊥
    busy_none limit doing lists fits d busy h =
        let b = submission_below scene s known.ground (off_levels level) (off_levels level) limit doing lists fits d busy h in spare b.0 b.4 b.3

    writer_later : (number : ℕ) (todo : List Todo) (taken : Gathered) (doing : Doing) (lists : TaskLists) → DoingFits setup doing lists → DoingPlaced setup 32 doing lists → StillWriter s todo taken doing → ByRounds todo
        → Each (λ (t : Todo). now < t.round) todo
    writer_later number todo taken Rests lists fits d h by = writer_rests todo taken h by
    writer_later number todo taken (Drives bio ask) lists fits d h by = absurd (busy_none 32 (Drives bio ask) lists fits d tt h)
    writer_later number todo taken (Copies bio master leg want) lists fits d h by = absurd (busy_none 32 (Copies bio master leg want) lists fits d tt h)
    writer_later number todo taken (Breaks breach kept) lists fits d h by = absurd h

    none_now : (todo : List Todo) → Each (λ (t : Todo). now < t.round) todo → TodosFit rounds todo → all_worth (is_of_round rounds now) todo ≡ 0
    none_now [] later own = refl
    none_now (t ∷ todo) later own =
        let lt = later.0 in
        let e = own.0 in
        omega (arith, none_now todo later.1 own.1, one-other (round_of rounds t.number) now (λ q. omega (arith, q, e, lt)))

    abbrev u : Weight
    u = unfinished_of (is_of_round rounds now)

    taken_zero : (taken : Gathered) → gathered_weight u taken ≡ 0
    taken_zero NoBio = refl
    taken_zero (HasBio item) = refl
    taken_zero (HasBoth item vector) = refl

    task_none : (place : ℕ) (x : TaskState) → TaskIsSound scene x → TaskPlaced setup x → TaskRounds rounds keeper now place x → AtPost ids keeper scene s.objects.tally place x → IsStill s x → task_weight u place x ≡ 0
    task_none place (Writer number todo taken submission) fits t r post h =
        let later = writer_later number todo taken submission.doing submission.lists fits.1 t.1 h post.1.0 in
        omega (arith, none_now todo later r, taken_zero taken, submission_zero (λ todos taken. all_worth (is_of_round rounds now) todos) (is_of_round rounds now) 32 submission)
    task_none place (Rescuer dev submission) fits t r post h = submission_zero (λ todos taken. all_worth (is_of_round rounds now) todos) (is_of_round rounds now) dev.0 submission
    task_none place (Completer disk Empty) fits t r post h = refl
    task_none place (Completer disk (Brings bio status)) fits t r post h = refl
    task_none place (Completer disk (Carries w closed)) fits t r post h = absurd h
    task_none place (Completer disk (Fails breach kept)) fits t r post h = absurd h
    task_none place (Keeper keeping) fits t r post h = refl

    -- no write of the present round is unfinished
    all_done : slice_index_or s.objects.tally.left now 0 ≡ 0
    all_done =
        let a : sum_at (task_weight u) scene.tasks s.task ≡ 0 = by_tasks (zero_or (sum_at (task_weight u) scene.tasks s.task)) in
        let b : sum_at (λ dev bios. sum_by (u.bio Rescued) bios) setup.count s.objects.rescue ≡ 0 = by_rescue (zero_or (sum_at (λ dev bios. sum_by (u.bio Rescued) bios) setup.count s.objects.rescue)) in
        let c : sum_at (λ dev (disk : DiskState). sum_by (u.bio Pending) disk.pending) setup.count s.objects.disk ≡ 0 =
        by_disks (zero_or (sum_at (λ dev (disk : DiskState). sum_by (u.bio Pending) disk.pending) setup.count s.objects.disk)) in
        let d : sum_at (book_weight u) scene.books s.objects.book ≡ 0 = by_books (zero_or (sum_at (book_weight u) scene.books s.objects.book)) in
        let all = tallied.left now in
        omega (arith, a, b, c, d, all)
      where
        by_tasks : (sum_at (task_weight u) scene.tasks s.task ≡ 0) ⊎ (1 ≤ sum_at (task_weight u) scene.tasks s.task) → sum_at (task_weight u) scene.tasks s.task ≡ 0
        by_tasks (inl z) = z
        by_tasks (inr some) =
            let t = some_place (task_weight u) scene.tasks s.task some in
            let z = task_none t.0 (s.task t.0) (known.kept.tasks t.0) (known.placed.tasks t.0) (tallied.tasks t.0) (posted.tasks t.0) (still t.0 t.1) in
            let more = t.2 in
            absurd (omega (arith, z, more))

        by_rescue : (sum_at (λ dev bios. sum_by (u.bio Rescued) bios) setup.count s.objects.rescue ≡ 0) ⊎ (1 ≤ sum_at (λ dev bios. sum_by (u.bio Rescued) bios) setup.count s.objects.rescue)
            → sum_at (λ dev bios. sum_by (u.bio Rescued) bios) setup.count s.objects.rescue ≡ 0
        by_rescue (inl z) = z
        by_rescue (inr some) =
            let t = some_place (λ dev bios. sum_by (u.bio Rescued) bios) setup.count s.objects.rescue some in
            let more = t.2 in
            absurd (omega (arith, zeros (s.objects.rescue t.0), more))

        by_disks : (sum_at (λ dev (disk : DiskState). sum_by (u.bio Pending) disk.pending) setup.count s.objects.disk ≡ 0) ⊎ (1 ≤ sum_at (λ dev (disk : DiskState). sum_by (u.bio Pending) disk.pending) setup.count s.objects.disk)
            → sum_at (λ dev (disk : DiskState). sum_by (u.bio Pending) disk.pending) setup.count s.objects.disk ≡ 0
        by_disks (inl z) = z
        by_disks (inr some) =
            let t = some_place (λ dev (disk : DiskState). sum_by (u.bio Pending) disk.pending) setup.count s.objects.disk some in
            let more = t.2 in
            absurd (omega (arith, zeros (s.objects.disk t.0).pending, more))

        by_books : (sum_at (book_weight u) scene.books s.objects.book ≡ 0) ⊎ (1 ≤ sum_at (book_weight u) scene.books s.objects.book) → sum_at (book_weight u) scene.books s.objects.book ≡ 0
        by_books (inl z) = z
        by_books (inr some) =
            let v = some_place (book_weight u) scene.books s.objects.book some in
            let j = some_place (λ place. weigh_option (u.node v.0 place)) (length (s.objects.book v.0).nodes) (node_at (s.objects.book v.0)) v.2 in
            absurd (by_node v.0 j.0 (node_at (s.objects.book v.0) j.0) refl j.2)
          where
            by_node : (v j : ℕ) (found : Option Node) → node_at (s.objects.book v) j ≡ found → 1 ≤ weigh_option (u.node v j) found → ⊥
            by_node v j None is h = omega (arith, h)
            by_node v j (Some node) is h = none_open scene s level known all_still v j node is

    -- so the keeper has an event
    keeper_free : 1 ≤ unfinished s → HasFree scene s
    keeper_free some =
        let kp = is_keeper (s.task keeper) ((posted.tasks keeper).0 ∙ crew.keeps) in
        by_keeping kp.0 kp.1
        (subst (TaskIsSound scene) kp.1 (known.kept.tasks keeper)) (subst (TaskRounds rounds keeper now keeper) kp.1 (tallied.tasks keeper))
        (subst (AtPost ids keeper scene s.objects.tally keeper) kp.1 (posted.tasks keeper))
      where
        left_over : sum s.objects.tally.left ≡ from_round rounds (now + 1)
        left_over = let sums = tallied.tally.sums in omega (arith, sums, all_done)

        by_keeping : (keeping : Keeping) → s.task keeper ≡ Keeper keeping → TaskIsSound scene (Keeper keeping) → TaskRounds rounds keeper now keeper (Keeper keeping) → AtPost ids keeper scene s.objects.tally keeper (Keeper keeping)
            → HasFree scene s
        by_keeping (Stops breach) at fits r post = absurd fits
        by_keeping (Keeps []) at fits r post =
            let last : now + 0 + 1 ≡ length s.objects.tally.left = post.1.1 refl in
            let e : now + 1 ≡ length s.objects.tally.left = omega (arith, last) in
            let none : from_round rounds (now + 1) ≡ 0 = ap (from_round rounds) e ∙ no_more in
            absurd (omega (arith, some, left_over, none))
        by_keeping (Keeps (Resizes pool min later ∷ duties)) at fits r post =
            let home = all_home scene s level known all_still (pool_number pool) in
            let same : sum s.objects.tally.left ≡ later = left_over ∙ sym (r.1.0) in
            let lets_it : IsTrue (sum s.objects.tally.left == later) = eq-eqb (sum s.objects.tally.left) later same in
            free_of scene s keeper post.1.2 (Keeper (Keeps (Resizes pool min later ∷ duties))) at (requests.OutIs 0) (what.Resize pool min)
            (requests.LeftOver (sum s.objects.tally.left), (refl, refl), lets_it) refl refl
            (with_pool s.objects (pool_number pool) (resizes min)) (sym home, refl)
        by_keeping (Keeps (Starts round later ∷ duties)) at fits r post =
            let full : now + (1 + starts duties) + 1 ≡ length s.objects.tally.left = post.1.1 refl in
            let same : sum s.objects.tally.left ≡ later = left_over ∙ sym (r.1.1) in
            let lets_it : IsTrue (sum s.objects.tally.left == later) = eq-eqb (sum s.objects.tally.left) later same in
            free_of scene s keeper post.1.2 (Keeper (Keeps (Starts round later ∷ duties))) at requests.Did (what.Round round)
            (requests.LeftOver (sum s.objects.tally.left), (refl, refl), lets_it) refl refl
            (record s.objects { tally = record s.objects.tally { round = now + 1 } }) (omega (arith, full), refl)

  -- some event needs no ordinary memory, or each write is done and each element is at home
  pub goes_on_or_ended : HasFree scene s ⊎ HasEnded s
  goes_on_or_ended =
      elim (find (HasFree scene s) (λ place. IsStill s (s.task place)) scene.tasks
      (λ place lt. task_free scene s n known.kept known.placed r numbers ids keeper posted place lt)) [
        | inl free ↦ inl free
        | inr still ↦ elim (zero_or (unfinished s)) [
          | inl done ↦ inr (record { writes = done; pools = all_home scene s level known (all_still_of still) })
          | inr some ↦ inl (keeper_free still some)
        ]
      ]
