-- What each task is there for: tasks stay what they are, none has failed, writers go by rounds, the keeper has all rounds before it, and each
-- pool at which a task can wait keeps an element.
use Rattle.std.proofs.Common.{◌≡◌, ◌+◌, ◌-◌, ◌*◌, ◌<◌, ◌≤◌, ◌⊎◌, ℕ, true, List, [], ◌∷◌, length, inl, inr, refl, sym, ◌∙◌, ap, subst, arith}
use Rattle.std.specs.Prelude.{slice_index_or}
use Rattle.std.proofs.lemmas.List.{length-set}
use Rattle.std.proofs.lemmas.Option.{slice_get_within}
use Rattle.stack_base.specs.declared.ids.DevId.{DevId}
use Rattle.stack_base.specs.PoolId.{pool_number}
use Rattle.stack_base.specs.Tree.{Tree, Leaf, Split, Mirrored}
use Rattle.stack_base.proofs.ListLemmas.{Each}
use Rattle.mempool_core.specs.Move.{PoolState, PoolMove, after_move, takes_ordinary, takes_spare, misses, gives, resizes}
use Rattle.bio_records.specs.declared.bio.Bio.{Bio}
use Rattle.bio_records.specs.declared.tasks.TaskLists.{TaskLists}
use Rattle.bio_books.specs.Drops.{Closed}
use Rattle.model_disks.specs.Disks.{DiskState}
use Rattle.model_disks.specs.Moves.{pushed}
use Rattle.run_machine.specs.Maps.{upd}
use Rattle.run_machine.specs.Scene.{Scene, tree_at}
use Rattle.run_machine.specs.Submissions.{Links, ToPush, ToCut, ToRecord, ToMaster, Doing, Drives, Copies, Submission, rests}
use Rattle.run_machine.specs.Tasks.{TaskState, Writer, Rescuer, Completer, Keeper, Keeps, Stops, Duty, Resizes, Starts, Todo, Gathered, NoBio, HasBio, HasBoth, Carried, Empty, Brings, Carries, Fails}
use Rattle.run_machine.specs.Objects.{done_one}
use Rattle.run_machine.specs.Runs.{State}
use Rattle.block_core.proofs.moves.Moves.{Move, Can, after, with_submission, HasSubmission, gathered_of, IsTake}
use Rattle.block_core.proofs.moves.Moves as moves
use Rattle.block_core.proofs.moves.Sums.{upd-same, upd-other, same_or_not}
use Rattle.block_core.proofs.sound.Invariant.{Suits, TaskIsSound, Invariant}
use Rattle.block_core.proofs.sound.TaskSubmissions.{submission_fits}
use Rattle.block_core.proofs.sound.Rounds.{TaskRounds, Tallied}
use Rattle.block_core.proofs.stuck.NothingWaits.{IsPool}
use Rattle.run_machine.specs.Scene.{keeps_data, is_disk, is_device}
use Rattle.run_machine.specs.Objects.{TallyState}
use Rattle.run_machine.specs.Events.{id_of}
use Rattle.run_machine.specs.declared.event.TaskId.{TaskId}
use Rattle.run_machine.proofs.Frames.{upd_keeps}

-- the writes of a writer stand by their rounds
abbrev pub ByRounds : List Todo → Type 0
ByRounds [] = Unit {0}
ByRounds (todo ∷ todos) = Each (λ (other : Todo). todo.round ≤ other.round) todos × ByRounds todos

-- something is taken for a write alone
abbrev pub TakenFits : List Todo → Gathered → Type 0
TakenFits todo NoBio = Unit {0}
TakenFits [] (HasBio item) = ⊥
TakenFits (todo ∷ todos) (HasBio item) = Unit {0}
TakenFits [] (HasBoth item vector) = ⊥
TakenFits (todo ∷ todos) (HasBoth item vector) = Unit {0}

abbrev pub Carrying : Carried → Type 0
Carrying Empty = Unit {0}
Carrying (Brings bio status) = Unit {0}
Carrying (Carries writer closed) = Unit {0}
Carrying (Fails breach kept) = ⊥

-- each change of a reserve leaves one, and how many rounds are still to start
abbrev pub Mins : List Duty → Type 0
Mins [] = Unit {0}
Mins (Resizes pool min later ∷ duties) = (1 ≤ min) × Mins duties
Mins (Starts round later ∷ duties) = Mins duties

abbrev pub starts : List Duty → ℕ
starts [] = 0
starts (Resizes pool min later ∷ duties) = starts duties
starts (Starts round later ∷ duties) = 1 + starts duties

abbrev pub InTasks : Scene → List Duty → ℕ → Type 0
InTasks scene [] place = Unit {0}
InTasks scene (duty ∷ duties) place = place < scene.tasks

abbrev pub KeeperManned : ℕ → Scene → TallyState → ℕ → List Duty → Type 0
KeeperManned keeper scene tally place duties =
    Mins duties × (place ≡ keeper → tally.round + starts duties + 1 ≡ length tally.left) × InTasks scene duties place

abbrev pub Manned : ℕ → Scene → TallyState → ℕ → TaskState → Type 0
Manned keeper scene tally place (Writer number todo taken submission) = ByRounds todo × TakenFits todo taken
Manned keeper scene tally place (Rescuer dev submission) = Unit {0}
Manned keeper scene tally place (Completer disk carried) = Carrying carried
Manned keeper scene tally place (Keeper (Keeps duties)) = KeeperManned keeper scene tally place duties
Manned keeper scene tally place (Keeper (Stops breach)) = Unit {0}

abbrev pub AtPost : (ℕ → TaskId) → ℕ → Scene → TallyState → ℕ → TaskState → Type 0
AtPost ids keeper scene tally place x = (id_of x ≡ ids place) × Manned keeper scene tally place x

pub record Posted (ids : ℕ → TaskId) (keeper : ℕ) (scene : Scene) (s : State) : Type 0 where
  pub tasks : (place : ℕ) → AtPost ids keeper scene s.objects.tally place (s.task place)
  pub mins : (number : ℕ) → IsPool scene.setup number → 1 ≤ (s.objects.pool number).facts.min
  -- only disks have bios
  pub disks : (dev : ℕ) → ((s.objects.disk dev).pending ≡ []) ⊎ (is_disk scene.setup dev ≡ true)

module _ (rounds : List ℕ) (ids : ℕ → TaskId) (keeper : ℕ) (scene : Scene) (s : State) (k : Invariant scene s) (r : Tallied rounds keeper scene s) (i : Posted ids keeper scene s) where
  abbrev Post : TallyState → ℕ → TaskState → Type 0
  Post = AtPost ids keeper scene

  at : (place : ℕ) (x : TaskState) → s.task place ≡ x → Post s.objects.tally place x
  at place x is = subst (Post s.objects.tally place) is (i.tasks place)

  goes : (place : ℕ) (y : TaskState) → Post s.objects.tally place y → (j : ℕ) → Post s.objects.tally j (upd s.task place y j)
  goes place y fits = upd_keeps (Post s.objects.tally) s.task place y i.tasks fits

  relined : (place : ℕ) (x : TaskState) (doing : Doing) (lists : TaskLists) (new : Submission) → HasSubmission x doing lists → Post s.objects.tally place x → Post s.objects.tally place (with_submission x new)
  relined place (Writer number todo taken submission) doing lists new h t = t
  relined place (Rescuer dev submission) doing lists new h t = t
  relined place (Completer disk carried) doing lists new h t = absurd h
  relined place (Keeper keeping) doing lists new h t = absurd h

  on_submission : (place : ℕ) (x : TaskState) (doing : Doing) (lists : TaskLists) (new : Submission) → s.task place ≡ x → HasSubmission x doing lists → (j : ℕ) → Post s.objects.tally j (upd s.task place (with_submission x new) j)
  on_submission place x doing lists new is h = goes place (with_submission x new) (relined place x doing lists new h (at place x is))

  -- the tally goes on
  other_tally : (tally : TallyState) (place : ℕ) (x : TaskState) → ((duties : List Duty) → (place ≡ keeper → s.objects.tally.round + starts duties + 1 ≡ length s.objects.tally.left)
      → place ≡ keeper → tally.round + starts duties + 1 ≡ length tally.left) → Post s.objects.tally place x → Post tally place x
  other_tally tally place (Writer number todo taken submission) same t = t
  other_tally tally place (Rescuer dev submission) same t = t
  other_tally tally place (Completer disk carried) same t = t
  other_tally tally place (Keeper (Keeps duties)) same t = (t.0, (t.1.0, same duties t.1.1, t.1.2))
  other_tally tally place (Keeper (Stops breach)) same t = t

  in_tasks : (place : ℕ) (duties : List Duty) → place < scene.tasks → InTasks scene duties place
  in_tasks place [] lt = tt
  in_tasks place (duty ∷ duties) lt = lt

  started : (place round later : ℕ) (duties : List Duty) → Can scene s (moves.Started place round later duties) → (j : ℕ)
      → Post (record s.objects.tally { round = s.objects.tally.round + 1 }) j (upd s.task place (Keeper (Keeps duties)) j)
  started place round later duties c j =
      let tally = record s.objects.tally { round = s.objects.tally.round + 1 } in
      let t = at place _ c.1 in
      let mine : TaskRounds rounds keeper s.objects.tally.round place (Keeper (Keeps (Starts round later ∷ duties))) = subst (TaskRounds rounds keeper s.objects.tally.round place) c.1 (r.tasks place) in
      elim (same_or_not j place) [
        | inl e ↦
            let P : ℕ → Type 0 = λ n. Post tally n (upd s.task place (Keeper (Keeps duties)) n) in
            subst P (sym e) (subst (Post tally place) (sym (upd-same s.task place (Keeper (Keeps duties))))
            (t.0, (t.1.0, (λ own. let q = t.1.1 own in omega (arith, q)), in_tasks place duties c.0)))
        | inr ne ↦
            subst (Post tally j) (sym (upd-other s.task place (Keeper (Keeps duties)) j ne))
            (other_tally tally j (s.task j) (λ ds was own. absurd (ne (own ∙ sym mine.0))) (i.tasks j))
      ]

  -- a write is told done
  ended : (place : ℕ) (disk : DevId) (writer : ℕ) (closed : Closed) → Can scene s (moves.Ends place disk writer closed) → (j : ℕ)
      → Post (done_one closed.write closed.status s.objects.tally) j (upd s.task place (Completer disk Empty) j)
  ended place disk writer closed c j =
      let tally = done_one closed.write closed.status s.objects.tally in
      let t = at place _ c.1 in
      let long = length-set s.objects.tally.left s.objects.tally.round (slice_index_or s.objects.tally.left s.objects.tally.round 0 - 1) in
      other_tally tally j (upd s.task place (Completer disk Empty) j) (λ ds was own. let q = was own in omega (arith, q, long)) (goes place (Completer disk Empty) (t.0, tt) j)

  tasks : (m : Move) → Can scene s m → (j : ℕ) → Post (after scene s m).objects.tally j ((after scene s m).task j)
  -- takes of writers: the write that something is taken for is still to begin
  tasks (moves.TakesFirst place writer todo later move) c = let t = at place _ c.1 in goes place _ (t.0, (t.1.0, tt))
  tasks (moves.TakesVector place writer todo later item move) c = let t = at place _ c.1 in goes place _ (t.0, (t.1.0, tt))
  -- takes of submissions, misses and punts: at most the submission of the task changes
  tasks (moves.TakesSub place x doing lists dev waits move) c = on_submission place x doing lists _ c.1 c.2
  tasks (moves.TakesSlip place x bio lists move) c = on_submission place x (Drives bio ToRecord) lists _ c.1 c.2
  tasks (moves.MissesOne place x number used) c = goes place x (at place x c.1)
  tasks (moves.MissesTry place x doing lists dev used) c = on_submission place x doing lists _ c.1 c.2
  tasks (moves.Punts place x doing lists dev) c = on_submission place x doing lists _ c.1 c.2
  -- pops, pushes and completions: the task stays what it is, and a completer has not failed
  tasks (moves.Pops place dev bio bios) c = let t = at place _ c.1 in goes place _ (t.0, tt)
  tasks (moves.Pushes place x bio lists) c = on_submission place x (Drives bio ToPush) lists _ c.1 c.2
  tasks (moves.Completed place disk index bio status new) c = let t = at place _ c.1 in goes place _ (t.0, tt)
  -- links of writes: the writes behind it stand by their rounds
  tasks (moves.Begins place writer todo later item vector key) c =
      let t = at place (Writer writer (todo ∷ later) (gathered_of item vector) rests) c.1 in goes place _ (t.0, (t.1.0.1, tt))
  -- links of pieces, of masters and of legs: nothing changes in the task but its submission
  tasks (moves.Chained place x bio lists hand number kind sizes members key node) c = on_submission place x (Drives bio (ToCut (Links hand))) lists _ c.1 c.2
  tasks (moves.Mastered place x bio lists slip key node) c = on_submission place x (Drives bio (ToMaster slip)) lists _ c.1 c.2
  tasks (moves.Legged place x bio lists master leg hand key node) c = on_submission place x (Copies bio master leg (Links hand)) lists _ c.1 c.2
  -- drops and gives: the completer has not failed
  tasks (moves.Told place disk carried writer key status part node) c = let t = at place _ c.1 in goes place _ (t.0, tt)
  tasks (moves.Closes place disk carried writer key status part node) c = let t = at place _ c.1 in goes place _ (t.0, tt)
  tasks (moves.Gives place disk writer number closed held) c = let t = at place _ c.1 in goes place _ (t.0, tt)
  -- ends of writes: the tally has as many rounds as before
  tasks (moves.Ends place disk writer closed) c = ended place disk writer closed c
  -- resizes: the keeper has as many rounds before it as before
  tasks (moves.Resized place pool min later duties) c = let t = at place _ c.1 in goes place _ (t.0, (t.1.0.1, t.1.1, in_tasks place duties c.0))
  -- rounds: the tally is one round further, and the keeper has one round less before it
  tasks (moves.Started place round later duties) c = started place round later duties c

  -- a move but a resize leaves a pool its reserve
  one_pool : (number : ℕ) (move : PoolMove) → (after_move (s.objects.pool number) move).facts.min ≡ (s.objects.pool number).facts.min
      → (q : ℕ) → IsPool scene.setup q → 1 ≤ (upd s.objects.pool number (after_move (s.objects.pool number) move) q).facts.min
  one_pool number move same q is =
      upd_keeps (λ q (pool : PoolState). IsPool scene.setup q → 1 ≤ pool.facts.min) s.objects.pool number (after_move (s.objects.pool number) move) i.mins
      (λ own. let old = i.mins number own in omega (arith, old, same)) q is

  take_min : (pool : PoolState) (move : PoolMove) → IsTake move → (after_move pool move).facts.min ≡ pool.facts.min
  take_min pool takes_ordinary h = refl
  take_min pool takes_spare h = refl
  take_min pool (misses used) h = absurd h
  take_min pool gives h = absurd h
  take_min pool (resizes min) h = absurd h

  mins : (m : Move) → Can scene s m → (q : ℕ) → IsPool scene.setup q → 1 ≤ ((after scene s m).objects.pool q).facts.min
  -- takes and misses: the pool keeps its reserve
  mins (moves.TakesFirst place writer todo later move) c = one_pool 65 move (take_min (s.objects.pool 65) move c.2)
  mins (moves.TakesVector place writer todo later item move) c = one_pool 64 move (take_min (s.objects.pool 64) move c.2)
  mins (moves.TakesSub place x doing lists dev waits move) c = one_pool (2 * dev.0) move (take_min (s.objects.pool (2 * dev.0)) move c.4)
  mins (moves.TakesSlip place x bio lists move) c = one_pool (2 * bio.bio.dev.0 + 1) move (take_min (s.objects.pool (2 * bio.bio.dev.0 + 1)) move c.3)
  mins (moves.MissesOne place x number used) c = one_pool number (misses used) refl
  mins (moves.MissesTry place x doing lists dev used) c = one_pool (2 * dev.0) (misses used) refl
  -- gives: the pool keeps its reserve
  mins (moves.Gives place disk writer number closed held) c = one_pool number gives refl
  -- resizes: the new reserve is one element at least
  mins (moves.Resized place pool min later duties) c =
      let t = at place _ c.1 in
      upd_keeps (λ q (pool : PoolState). IsPool scene.setup q → 1 ≤ pool.facts.min) s.objects.pool (pool_number pool) (after_move (s.objects.pool (pool_number pool)) (resizes min)) i.mins (λ own. t.1.0.0)
  -- all others: no pool changes
  mins _ c = i.mins

  disk_there : (bio : Bio) → bio.dev.0 < scene.setup.count → Suits (tree_at scene.setup bio.dev) ToPush → is_disk scene.setup bio.dev.0 ≡ true
  disk_there bio lt suits =
      let a : is_device scene.setup bio.dev.0 ≡ true = search (lt, arith) in
      let b : keeps_data (scene.setup.tree bio.dev.0) ≡ true = by_tree (tree_at scene.setup bio.dev) suits in
      rw (a, b) refl
    where
      by_tree : (t : Tree) → Suits t ToPush → keeps_data t ≡ true
      by_tree (Leaf number sectors) suits = refl
      by_tree (Split number kind sizes members) suits = absurd suits
      by_tree (Mirrored number sizes members) suits = absurd suits

  disks : (m : Move) → Can scene s m → (dev : ℕ) → (((after scene s m).objects.disk dev).pending ≡ []) ⊎ (is_disk scene.setup dev ≡ true)
  -- pushes: a bio is pushed where its device is a disk
  disks (moves.Pushes place x bio lists) c =
      let suits = submission_fits scene x (Drives bio ToPush) lists (subst (TaskIsSound scene) c.1 (k.tasks place)) c.2 in
      upd_keeps (λ d (disk : DiskState). (disk.pending ≡ []) ⊎ (is_disk scene.setup d ≡ true)) s.objects.disk bio.bio.dev.0 (pushed bio (s.objects.disk bio.bio.dev.0)) i.disks
      (inr (disk_there bio.bio c.3 suits))
  -- completions: a device that had a bio is a disk
  disks (moves.Completed place disk index bio status new) c =
      upd_keeps (λ d (disk : DiskState). (disk.pending ≡ []) ⊎ (is_disk scene.setup d ≡ true)) s.objects.disk disk.0 new i.disks (by_old (i.disks disk.0))
    where
      by_old : ((s.objects.disk disk.0).pending ≡ []) ⊎ (is_disk scene.setup disk.0 ≡ true) → (new.pending ≡ []) ⊎ (is_disk scene.setup disk.0 ≡ true)
      by_old (inl none) =
          let lt = slice_get_within (s.objects.disk disk.0).pending index bio c.3.taken in
          let z : length (s.objects.disk disk.0).pending ≡ 0 = ap length none in
          absurd (omega (arith, lt, z))
      by_old (inr is) = inr is
  -- all others: no disk changes
  disks _ c = i.disks

  pub stays_posted : (m : Move) → Can scene s m → Posted ids keeper scene (after scene s m)
  stays_posted m c = record { tasks = tasks m c; mins = mins m c; disks = disks m c }

-- no event adds a round
pub left_long : (scene : Scene) (s : State) (m : Move) → length (after scene s m).objects.tally.left ≡ length s.objects.tally.left
-- ends of writes: one count changes at its place
left_long scene s (moves.Ends place disk writer closed) = length-set s.objects.tally.left s.objects.tally.round (slice_index_or s.objects.tally.left s.objects.tally.round 0 - 1)
-- all others: the counts stay as they are
left_long scene s _ = refl
