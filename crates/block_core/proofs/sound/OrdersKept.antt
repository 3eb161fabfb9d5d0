-- Events keep the submissions of tasks and the rescue lists in order.
use Rattle.std.proofs.Common.{◌≡◌, ◌+◌, ◌*◌, ◌++◌, ℕ, true, false, List, [], ◌∷◌, filter, Option, None, Some, sym, ◌∙◌, ap, subst, arith}
use Rattle.stack_base.specs.declared.ids.DevId.{DevId}
use Rattle.stack_base.specs.declared.ids.Range.{Range}
use Rattle.stack_base.specs.PoolId.{pool_number}
use Rattle.stack_base.specs.Tree.{Tree, Leaf, Split, Mirrored}
use Rattle.stack_base.specs.declared.ids.SetId.TheVariants.{Of}
use Rattle.stack_base.proofs.ListLemmas.{Each}
use Rattle.elem_ledger.specs.Ledger.{LedgerId}
use Rattle.bio_records.specs.declared.bio.Pad.{Pad}
use Rattle.bio_records.specs.declared.tasks.TaskLists.{TaskLists}
use Rattle.bio_records.specs.Items.{Item}
use Rattle.bio_records.specs.Sorting.{is_of}
use Rattle.bio_lists.specs.Submission.{submitted}
use Rattle.bio_lists.specs.Punt.{punted, unpunted}
use Rattle.bioset_pools.specs.Sets.{bios_of}
use Rattle.bio_books.specs.Books.{VectorItem, SlipItem}
use Rattle.run_machine.specs.Maps.{upd}
use Rattle.run_machine.specs.Scene.{Setup, Scene, tree_at}
use Rattle.run_machine.specs.Submissions.{Takes, WantsPunt, Links, ToPush, ToCut, ToRecord, ToMaster, Doing, Rests, Drives, Copies, Breaks, Submission, rests, leg_at}
use Rattle.run_machine.specs.Tasks.{TaskState, Writer, Rescuer, Completer, Keeper}
use Rattle.run_machine.specs.Objects.{clear_bio, clear_slip}
use Rattle.run_machine.specs.Runs.{State}
use Rattle.run_machine.proofs.Frames.{upd_keeps}
use Rattle.block_core.proofs.moves.Moves.{Move, Can, after, limit_of, with_submission, HasSubmission, gathered_of}
use Rattle.block_core.proofs.moves.Moves as moves
use Rattle.block_core.proofs.sound.Invariant.{TaskIsSound, DoingIsIn, IsIn, LedgersAreNumbered, Invariant}
use Rattle.block_core.proofs.sound.TaskSubmissions.{all-upd, submission_fits}
use Rattle.block_core.proofs.sound.Orders.{IsPlaced, IsOwn, AskFits, DoingPlaced, SubmissionPlaced, HandHome, TaskPlaced, Placed, DeviceGeometry, each_map, each_filter, each_append, of_set, first_placed, pushed_placed, cut_placed, copies_placed, begun_placed, wants_placed, punts_placed, waiting_placed}

-- the submission of a task, in order, and of the task at a place
submission_placed : (setup : Setup) (x : TaskState) (doing : Doing) (lists : TaskLists) → TaskPlaced setup x → HasSubmission x doing lists → DoingPlaced setup (limit_of x) doing lists
submission_placed setup (Writer number todo taken submission) doing lists t h = subst (SubmissionPlaced setup 32) h t.1
submission_placed setup (Rescuer dev submission) doing lists t h = subst (SubmissionPlaced setup dev.0) h t
submission_placed setup (Completer disk carried) doing lists t h = absurd h
submission_placed setup (Keeper keeping) doing lists t h = absurd h

pub placed_at : (setup : Setup) (s : State) → Placed setup s → (place : ℕ) (x : TaskState) (doing : Doing) (lists : TaskLists) → s.task place ≡ x → HasSubmission x doing lists
    → DoingPlaced setup (limit_of x) doing lists
placed_at setup s p place x doing lists is h = submission_placed setup x doing lists (subst (TaskPlaced setup) is (p.tasks place)) h

-- what is had for a mirror's record is of the mirror's own pool
pub record_own : (t : Tree) (range : Range) (dev : ℕ) (slip : SlipItem) → AskFits t range dev (ToMaster slip) → slip.share.no ≡ 2 * dev + 1
record_own (Leaf number sectors) range dev slip fits = absurd fits
record_own (Split number kind sizes members) range dev slip fits = absurd fits
record_own (Mirrored number sizes members) range dev slip fits = fits

relined : (setup : Setup) (x : TaskState) (new : Submission) → TaskPlaced setup x → SubmissionPlaced setup (limit_of x) new → TaskPlaced setup (with_submission x new)
relined setup (Writer number todo taken submission) new t n = (t.0, n, t.2)
relined setup (Rescuer dev submission) new t n = n
relined setup (Completer disk carried) new t n = tt
relined setup (Keeper keeping) new t n = tt

module _ (scene : Scene) (s : State) (f : LedgersAreNumbered scene) (g : DeviceGeometry scene.setup) (i : Invariant scene s) (p : Placed scene.setup s) where
  at_task : (place : ℕ) (x : TaskState) → s.task place ≡ x → TaskPlaced scene.setup x
  at_task place x is = subst (TaskPlaced scene.setup) is (p.tasks place)

  goes : (place : ℕ) (y : TaskState) → TaskPlaced scene.setup y → (j : ℕ) → TaskPlaced scene.setup (upd s.task place y j)
  goes place y fits = all-upd (TaskPlaced scene.setup) s.task place y p.tasks fits

  on_submission : (place : ℕ) (x : TaskState) (new : Submission) → s.task place ≡ x → SubmissionPlaced scene.setup (limit_of x) new → (j : ℕ) → TaskPlaced scene.setup (upd s.task place (with_submission x new) j)
  on_submission place x new is fits = goes place (with_submission x new) (relined scene.setup x new (at_task place x is) fits)

  tasks : (m : Move) → Can scene s m → (j : ℕ) → TaskPlaced scene.setup ((after scene s m).task j)
  -- takes: what is taken is of the pool that was asked
  tasks (moves.TakesFirst place writer todo later move) c = let t = at_task place _ c.1 in goes place _ (t.0, t.1, f.named 65)
  tasks (moves.TakesVector place writer todo later item move) c = let t = at_task place _ c.1 in goes place _ (t.0, t.1, (t.2, f.named 64))
  tasks (moves.TakesSub place x doing lists dev waits move) c =
      on_submission place x _ c.1 (wants_placed scene.setup g (limit_of x) doing dev (Takes waits) (Links (clear_bio (scene.ledger (2 * dev.0)))) lists c.3 (f.named (2 * dev.0)) (placed_at scene.setup s p place x doing lists c.1 c.2))
  tasks (moves.TakesSlip place x bio lists move) c =
      let d = placed_at scene.setup s p place x (Drives bio ToRecord) lists c.1 c.2 in
      on_submission place x _ c.1 (d.0, d.1, d.2, by_tree (tree_at scene.setup bio.bio.dev) d.3)
    where
      by_tree : (t : Tree) → AskFits t bio.bio.range bio.bio.dev.0 ToRecord → AskFits t bio.bio.range bio.bio.dev.0 (ToMaster (clear_slip (scene.ledger (2 * bio.bio.dev.0 + 1))))
      by_tree (Leaf number sectors) a = a
      by_tree (Split number kind sizes members) a = a
      by_tree (Mirrored number sizes members) a = f.named (2 * bio.bio.dev.0 + 1)
  -- misses
  tasks (moves.MissesOne place x number used) c = goes place x (at_task place x c.1)
  tasks (moves.MissesTry place x doing lists dev used) c =
      on_submission place x _ c.1 (wants_placed scene.setup g (limit_of x) doing dev (Takes false) WantsPunt lists c.3 tt (placed_at scene.setup s p place x doing lists c.1 c.2))
  -- punts
  tasks (moves.Punts place x doing lists dev) c =
      on_submission place x _ c.1
      (wants_placed scene.setup g (limit_of x) doing dev WantsPunt (Takes true) (unpunted (Of dev) lists) c.3 tt
      (punts_placed scene.setup g (limit_of x) doing dev dev WantsPunt lists c.3 (placed_at scene.setup s p place x doing lists c.1 c.2)))
  -- pops, pushes and completions
  tasks (moves.Pops place dev bio bios) c =
      let r : Each (IsOwn scene.setup dev.0 dev.0) (bio ∷ bios) = subst (Each (IsOwn scene.setup dev.0 dev.0)) c.3 (p.rescued dev.0) in
      goes place _ (first_placed scene.setup g dev.0 (bio ∷ []) (r.0.0, tt) (tt, tt))
  tasks (moves.Pushes place x bio lists) c =
      let d = placed_at scene.setup s p place x (Drives bio ToPush) lists c.1 c.2 in on_submission place x _ c.1 (pushed_placed scene.setup g (limit_of x) bio.bio.dev lists d.0 d.1.1 d.2.1)
  tasks (moves.Completed place disk index bio status new) c = goes place _ tt
  -- links of writes
  tasks (moves.Begins place writer todo later item vector key) c =
      let t = at_task place (Writer writer (todo ∷ later) (gathered_of item vector) rests) c.1 in
      goes place _ (t.0.1, begun_placed scene.setup g writer todo item vector key t.0.0 (home vector t.2), tt)
    where
      home : (vector : Option VectorItem) → HandHome (gathered_of item vector) → item.share.no ≡ 65
      home None h = h
      home (Some v) h = h.0
  -- links of pieces
  tasks (moves.Chained place x bio lists hand number kind sizes members key node) c =
      on_submission place x _ c.1 (cut_placed scene.setup g (limit_of x) bio lists hand number kind sizes members key (placed_at scene.setup s p place x (Drives bio (ToCut (Links hand))) lists c.1 c.2) c.3)
  -- links of masters
  tasks (moves.Mastered place x bio lists slip key node) c =
      let d = placed_at scene.setup s p place x (Drives bio (ToMaster slip)) lists c.1 c.2 in
      let none : Each (IsOwn scene.setup bio.bio.dev.0 (limit_of x)) lists.list0 = subst (Each (IsOwn scene.setup bio.bio.dev.0 (limit_of x))) (sym d.0) tt in
      on_submission place x _ c.1 (copies_placed scene.setup g (limit_of x) lists bio.bio key 0 d.1.0.0 d.1.0.2 none d.1.1 d.2.0 d.2.1)
  -- links of legs
  tasks (moves.Legged place x bio lists master leg hand key node) c =
      let d = placed_at scene.setup s p place x (Copies bio master leg (Links hand)) lists c.1 c.2 in
      let lt = submission_fits scene x (Copies bio master leg (Links hand)) lists (subst (TaskIsSound scene) c.1 (i.tasks place)) c.2 in
      let item = leg_at bio hand leg key (tree_at scene.setup bio.dev) in
      let l = g.leg bio hand leg key d.0 lt in
      let low = l.1 in
      let limit = d.1 in
      let share : item.share.no ≡ 2 * bio.dev.0 = ap (λ (r : LedgerId). r.no) l.3 ∙ d.6 in
      let set : pool_number (bios_of item.bio.set) ≡ 2 * bio.dev.0 = ap (λ s. pool_number (bios_of s)) l.2 in
      let own : IsOwn scene.setup bio.dev.0 (limit_of x) item = ((l.0, omega (arith, low, share), omega (arith, low, limit), share ∙ sym set), share) in
      on_submission place x _ c.1
      (copies_placed scene.setup g (limit_of x) (submitted item lists) bio master (leg + 1) d.0 d.1
      (each_append (IsOwn scene.setup bio.dev.0 (limit_of x)) lists.list0 (item ∷ []) d.2 (own, tt)) d.3 d.4 d.5)
  -- drops, gives, ends of writes, resizes and rounds: by tasks without a submission
  tasks (moves.Told place disk carried writer key status part node) c = goes place _ tt
  tasks (moves.Closes place disk carried writer key status part node) c = goes place _ tt
  tasks (moves.Gives place disk writer number closed held) c = goes place _ tt
  tasks (moves.Ends place disk writer closed) c = goes place _ tt
  tasks (moves.Resized place pool min later duties) c = goes place _ tt
  tasks (moves.Started place round later duties) c = goes place _ tt

  -- what is punted is of the device's set, and below it
  own_of_set : (limit : ℕ) (dev : DevId) (items : List (Item Pad)) → Each (IsPlaced scene.setup limit) items → Each (IsOwn scene.setup dev.0 dev.0) (filter (is_of (Of dev)) items)
  own_of_set limit dev items placed =
      each_map (λ item. IsPlaced scene.setup limit item × (is_of (Of dev) item ≡ true)) (IsOwn scene.setup dev.0 dev.0)
      (λ item h.
      let same = of_set dev item.bio.set item h.1 in
      let set = h.0.3 in
      let up = h.0.1 in
      let here : item.share.no ≡ 2 * dev.0 = set ∙ same in
      ((h.0.0, up, omega arith, set), here))
      (filter (is_of (Of dev)) items) (each_filter (IsPlaced scene.setup limit) (is_of (Of dev)) items placed)

  rescued : (m : Move) → Can scene s m → (dev : ℕ) → Each (IsOwn scene.setup dev dev) ((after scene s m).objects.rescue dev)
  -- punts
  rescued (moves.Punts place x doing lists dev) c =
      let w = waiting_placed scene.setup g (limit_of x) doing dev WantsPunt lists c.3 (placed_at scene.setup s p place x doing lists c.1 c.2) in
      let own : Item Pad → Type 0 = IsOwn scene.setup dev.0 dev.0 in
      upd_keeps (λ d bios. Each (IsOwn scene.setup d d) bios) s.objects.rescue dev.0 (s.objects.rescue dev.0 ++ punted (Of dev) lists) p.rescued
      (each_append own (s.objects.rescue dev.0) (punted (Of dev) lists) (p.rescued dev.0)
      (each_append own (filter (is_of (Of dev)) lists.list0) (filter (is_of (Of dev)) lists.list1) (own_of_set (limit_of x) dev lists.list0 w.0) (own_of_set (limit_of x) dev lists.list1 w.1)))
  -- pops
  rescued (moves.Pops place dev bio bios) c =
      let r : Each (IsOwn scene.setup dev.0 dev.0) (bio ∷ bios) = subst (Each (IsOwn scene.setup dev.0 dev.0)) c.3 (p.rescued dev.0) in
      upd_keeps (λ d bios. Each (IsOwn scene.setup d d) bios) s.objects.rescue dev.0 bios p.rescued r.1
  -- all others: rescue lists stay as they are
  rescued _ c = p.rescued

  pub stays_placed : (m : Move) → Can scene s m → Placed scene.setup (after scene s m)
  stays_placed m c = record { tasks = tasks m c; rescued = rescued m c }

-- a bio at hand is at a device of the stack
pub placed_in : (setup : Setup) (x : TaskState) → TaskPlaced setup x → IsIn setup x
placed_in setup (Writer number todo taken submission) t = doing_in submission.doing submission.lists t.1
  where
    doing_in : (doing : Doing) (lists : TaskLists) → DoingPlaced setup 32 doing lists → DoingIsIn setup doing
    doing_in Rests lists d = tt
    doing_in (Drives bio ask) lists d = d.1.0.0.device
    doing_in (Copies bio master leg want) lists d = d.0.device
    doing_in (Breaks breach kept) lists d = tt
placed_in setup (Rescuer dev submission) t = doing_in submission.doing submission.lists t
  where
    doing_in : (doing : Doing) (lists : TaskLists) → DoingPlaced setup dev.0 doing lists → DoingIsIn setup doing
    doing_in Rests lists d = tt
    doing_in (Drives bio ask) lists d = d.1.0.0.device
    doing_in (Copies bio master leg want) lists d = d.0.device
    doing_in (Breaks breach kept) lists d = tt
placed_in setup (Completer disk carried) t = tt
placed_in setup (Keeper keeping) t = tt
