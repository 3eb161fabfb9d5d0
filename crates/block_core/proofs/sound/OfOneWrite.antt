-- Events keep a node, the bios that name it and the nodes under it parts of one write.
use Rattle.std.proofs.Common.{◌≡◌, ◌+◌, ◌<◌, ◌≤◌, ◌==◌, ℕ, List, [], ◌∷◌, Option, None, Some, inr, refl, sym, ap, subst, arith}
use Rattle.std.proofs.lemmas.List.Sums.{sum_by-cons, sum_by_push}
use Rattle.elem_ledger.specs.Ledger.{LedgerId}
use Rattle.stack_base.specs.Tree.{Tree, Leaf, Split, Mirrored}
use Rattle.bio_records.specs.declared.bio.Bio.{Bio}
use Rattle.bio_records.specs.declared.bio.Pad.{Pad}
use Rattle.bio_records.specs.Items.{Item}
use Rattle.bio_lists.specs.Submission.{submitted}
use Rattle.bio_books.specs.Books.{Node, VectorItem, node_at, parent_of}
use Rattle.bio_books.specs.Links.{IsVacant}
use Rattle.run_machine.specs.declared.event.Event.{Event}
use Rattle.run_machine.specs.Scene.{Scene, tree_at}
use Rattle.run_machine.specs.Submissions.{Links, ToCut, ToMaster, Drives, Copies, first_length, legs_of, leg_at}
use Rattle.run_machine.specs.Tasks.{Todo, Completer, Carries}
use Rattle.run_machine.specs.Opened.{Scenario, scene, start, setup_in}
use Rattle.run_machine.specs.Runs.{State, IsRun}
use Rattle.block_core.specs.Weights.{total_weight, under}
use Rattle.block_core.specs.Scenarios.{IsScenario, IsNaming}
use Rattle.block_core.specs.OfOneWrite.{AreOfOneWrite, AllAreOfOneWrite}
use Rattle.block_core.proofs.moves.Sums.{apart}
use Rattle.block_core.proofs.moves.Moves.{Move, Can, after, lost, gained, limit_of, HasSubmission, filled_of, cut_lists}
use Rattle.block_core.proofs.moves.Moves as moves
use Rattle.block_core.proofs.sound.Invariant.{TaskIsSound, LedgersAreNumbered, Invariant}
use Rattle.block_core.proofs.sound.TaskSubmissions.{submission_fits}
use Rattle.block_core.proofs.sound.Orders.{DeviceGeometry}
use Rattle.block_core.proofs.sound.EachBio.{each_bio, each_copied}
use Rattle.block_core.proofs.sound.Strays.{bio_strays, parent_strays, strays, NoneStrays}
use Rattle.block_core.proofs.moves.Devices.{ground}
use Rattle.block_core.proofs.moves.Deltas.{other_place, delta}
use Rattle.block_core.proofs.sound.SumParts.{copies_weight, unless, unless_none, cut_weight, submission_part}
use Rattle.block_core.proofs.moves.SubmissionWeights.{IsBlind, landed_same, first_weight, goes_weight}
use Rattle.block_core.proofs.moves.VacantMarks.{with_mark, mark_here, mark_other, mark_still, IsUnmoved, none_moves}
use Rattle.block_core.proofs.stuck.Idle.{node_part}
use Rattle.block_core.proofs.moves.Totals.{task_part}
use Rattle.block_core.proofs.moves.StepMoves.{step_is_move}
use Rattle.block_core.proofs.start.InvariantAtStart.{total_zero, start_opened}
use Rattle.block_core.proofs.sound.EveryRun.{IsReachedWhole, runs_whole, start_whole}

blind_strays : (write_of : ℕ → ℕ → ℕ) → IsBlind (strays write_of)
blind_strays write_of limit item t = landed_same (λ (bio : Bio). apart (write_of bio.writer bio.node) bio.write) (λ to members bio. refl) t item.bio

-- what names another place than a vacant one stays with its write
module _ (write_of : ℕ → ℕ → ℕ) (writer key n : ℕ) where
  abbrev new : ℕ → ℕ → ℕ
  new = with_mark write_of writer key n

  parent_same : (w : ℕ) (parent : Option ℕ) (write : ℕ) → under writer key w parent ≡ 0 → parent_strays new w parent write ≡ parent_strays write_of w parent write
  parent_same w None write none = refl
  parent_same w (Some parent) write none = ap (λ x. apart x write) (mark_still write_of writer key n w parent none)

  unmoved : IsUnmoved (strays new) (strays write_of) writer key
  unmoved = record {
    todo = λ w todos taken. omega arith;
    bio = λ spot item none. omega (arith, mark_still write_of writer key n item.bio.writer item.bio.node none);
    copy = λ bio master leg none. omega (arith, mark_still write_of writer key n bio.writer master none);
    hand = λ item. omega arith;
    vector = λ vector. omega arith;
    slip = λ slip. omega arith;
    node = λ w k node other none. omega (arith, mark_other write_of writer key n w k other, parent_same w (parent_of node.role) node.write none);
    closed = λ task w closed none. omega (arith, parent_same w closed.parent closed.write none);
  }

  -- so a vacant place may have any
  pub vacant_strays : (scene : Scene) (s : State) → Invariant scene s → IsVacant (s.objects.book writer) key → total_weight scene (strays write_of) s ≡ 0 → total_weight scene (strays new) s ≡ 0
  vacant_strays scene s i vacant off = omega (arith, off, none_moves scene s i writer key vacant (strays new) (strays write_of) unmoved)

begun_of_write : (write_of : ℕ → ℕ → ℕ) (writer : ℕ) (todo : Todo) (item : Item Pad) (vector : Option VectorItem) (key : ℕ) → write_of writer key ≡ todo.number
    → bio_strays write_of (filled_of writer todo item vector key) ≡ 0
begun_of_write write_of writer todo item None key is = omega (arith, is)
begun_of_write write_of writer todo item (Some vector) key is = omega (arith, is)

leg_of_write : (write_of : ℕ → ℕ → ℕ) (bio : Bio) (hand : Item Pad) (leg key : ℕ) (t : Tree) → leg < legs_of t → write_of bio.writer key ≡ bio.write → bio_strays write_of (leg_at bio hand leg key t) ≡ 0
leg_of_write write_of bio hand leg key (Leaf number sectors) lt is = absurd (omega (arith, lt))
leg_of_write write_of bio hand leg key (Split number kind sizes members) lt is = absurd (omega (arith, lt))
leg_of_write write_of bio hand leg key (Mirrored number sizes members) lt is = omega (arith, is)

module _ (scene : Scene) (s : State) (i : Invariant scene s) (write_of : ℕ → ℕ → ℕ) (none : total_weight scene (strays write_of) s ≡ 0) where
  -- the writes stay
  same : (m : Move) → Can scene s m → gained scene (strays write_of) s m ≤ lost scene (strays write_of) s m → NoneStrays scene (after scene s m)
  same m c le = (write_of, omega (arith, none, delta scene (strays write_of) s m c, le))

  -- a vacant place gets one
  one_more : (m : Move) → Can scene s m → (writer key n : ℕ) → IsVacant (s.objects.book writer) key
      → gained scene (strays (with_mark write_of writer key n)) s m ≤ lost scene (strays (with_mark write_of writer key n)) s m → NoneStrays scene (after scene s m)
  one_more m c writer key n v le =
      (with_mark write_of writer key n, omega (arith, vacant_strays write_of writer key n scene s i v none, delta scene (strays (with_mark write_of writer key n)) s m c, le))

  -- an open node has the write of its place, behind the event too
  pub node_write : (writer key : ℕ) (node : Node) → node_at (s.objects.book writer) key ≡ Some node → write_of writer key ≡ node.write
  node_write writer key node at = omega (arith, none, node_part scene s i (strays write_of) writer key node at)

  pub stays_of_one_write : (m : Move) → Can scene s m → NoneStrays scene (after scene s m)
  -- takes, misses, punts, pops, pushes and completions
  stays_of_one_write (moves.TakesFirst place writer todo later move) c = same (moves.TakesFirst place writer todo later move) c (omega arith)
  stays_of_one_write (moves.TakesVector place writer todo later item move) c = same (moves.TakesVector place writer todo later item move) c (omega arith)
  stays_of_one_write (moves.TakesSub place x doing lists dev waits move) c = same (moves.TakesSub place x doing lists dev waits move) c (omega arith)
  stays_of_one_write (moves.TakesSlip place x bio lists move) c = same (moves.TakesSlip place x bio lists move) c (omega arith)
  stays_of_one_write (moves.MissesOne place x number used) c = same (moves.MissesOne place x number used) c (omega arith)
  stays_of_one_write (moves.MissesTry place x doing lists dev used) c = same (moves.MissesTry place x doing lists dev used) c (omega arith)
  stays_of_one_write (moves.Punts place x doing lists dev) c = same (moves.Punts place x doing lists dev) c (omega arith)
  stays_of_one_write (moves.Pops place dev bio bios) c =
      same (moves.Pops place dev bio bios) c (omega (arith, first_weight (strays write_of) (blind_strays write_of) dev.0 scene.setup (bio ∷ []), sum_by-cons (bio_strays write_of) bio []))
  stays_of_one_write (moves.Pushes place x bio lists) c =
      same (moves.Pushes place x bio lists) c (omega (arith, goes_weight (strays write_of) (blind_strays write_of) (limit_of x) scene.setup bio.bio.dev lists))
  stays_of_one_write (moves.Completed place disk index bio status new) c = same (moves.Completed place disk index bio status new) c (omega arith)
  -- links of writes
  stays_of_one_write (moves.Begins place writer todo later item vector key) c =
      let new = with_mark write_of writer key todo.number in
      let here = mark_here write_of writer key todo.number in
      one_more (moves.Begins place writer todo later item vector key) c writer key todo.number c.3
      (omega (
        arith,
        here,
        first_weight (strays new) (blind_strays new) 32 scene.setup (filled_of writer todo item vector key ∷ []),
        sum_by-cons (bio_strays new) (filled_of writer todo item vector key) [],
        begun_of_write new writer todo item vector key here,
      ))
  -- links of pieces
  stays_of_one_write (moves.Chained place x bio lists hand number kind sizes members key node) c =
      let n = first_length kind sizes bio.bio.range in
      let new = with_mark write_of bio.bio.writer key node.write in
      let here = mark_here write_of bio.bio.writer key node.write in
      let part = submission_part scene (strays write_of) s place x (Drives bio (ToCut (Links hand))) lists c.0 c.1 c.2 in
      let parent : new bio.bio.writer bio.bio.node ≡ write_of bio.bio.writer bio.bio.node =
      mark_other write_of bio.bio.writer key node.write bio.bio.writer bio.bio.node (inr (other_place (s.objects.book bio.bio.writer) key bio.bio.node node c.6 c.5)) in
      let of_node = node_write bio.bio.writer bio.bio.node node c.5 in
      let of_bio : write_of bio.bio.writer bio.bio.node ≡ bio.bio.write = omega (arith, none, part) in
      one_more (moves.Chained place x bio lists hand number kind sizes members key node) c bio.bio.writer key node.write c.6
      (omega (
        arith,
        here,
        parent,
        of_node,
        of_bio,
        goes_weight (strays new) (blind_strays new) (limit_of x) scene.setup bio.bio.dev (cut_lists bio lists hand n key kind sizes members),
        cut_weight (bio_strays new) bio lists hand n key kind sizes members,
      ))
  -- links of masters
  stays_of_one_write (moves.Mastered place x bio lists slip key node) c =
      let new = with_mark write_of bio.bio.writer key node.write in
      let here = mark_here write_of bio.bio.writer key node.write in
      let legs = legs_of (tree_at scene.setup bio.bio.dev) in
      let part = submission_part scene (strays write_of) s place x (Drives bio (ToMaster slip)) lists c.0 c.1 c.2 in
      let parent : new bio.bio.writer bio.bio.node ≡ write_of bio.bio.writer bio.bio.node =
      mark_other write_of bio.bio.writer key node.write bio.bio.writer bio.bio.node (inr (other_place (s.objects.book bio.bio.writer) key bio.bio.node node c.5 c.4)) in
      let of_node = node_write bio.bio.writer bio.bio.node node c.4 in
      let of_bio : write_of bio.bio.writer bio.bio.node ≡ bio.bio.write = omega (arith, none, part) in
      let copy : apart (new bio.bio.writer key) bio.bio.write ≡ 0 = omega (arith, here, of_node, of_bio) in
      one_more (moves.Mastered place x bio lists slip key node) c bio.bio.writer key node.write c.5
      (omega (
        arith,
        here,
        parent,
        of_node,
        copies_weight (strays new) (blind_strays new) (limit_of x) scene.setup lists bio.bio key 0,
        ap (unless (0 == legs)) copy,
        unless_none (0 == legs),
      ))
  -- links of legs
  stays_of_one_write (moves.Legged place x bio lists master leg hand key node) c =
      let new = with_mark write_of bio.writer key node.write in
      let here = mark_here write_of bio.writer key node.write in
      let legs = legs_of (tree_at scene.setup bio.dev) in
      let item = leg_at bio hand leg key (tree_at scene.setup bio.dev) in
      let lt = submission_fits scene x (Copies bio master leg (Links hand)) lists (subst (TaskIsSound scene) c.1 (i.tasks place)) c.2 in
      let part = submission_part scene (strays write_of) s place x (Copies bio master leg (Links hand)) lists c.0 c.1 c.2 in
      let parent : new bio.writer master ≡ write_of bio.writer master =
      mark_other write_of bio.writer key node.write bio.writer master (inr (other_place (s.objects.book bio.writer) key master node c.5 c.4)) in
      let of_node = node_write bio.writer master node c.4 in
      let of_bio : write_of bio.writer master ≡ bio.write = omega (arith, none, part) in
      let fits : bio_strays new item ≡ 0 = leg_of_write new bio hand leg key (tree_at scene.setup bio.dev) lt (omega (arith, here, of_node, of_bio)) in
      let copy : apart (new bio.writer master) bio.write ≡ 0 = omega (arith, parent, of_bio) in
      one_more (moves.Legged place x bio lists master leg hand key node) c bio.writer key node.write c.5
      (omega (
        arith,
        here,
        parent,
        of_node,
        copies_weight (strays new) (blind_strays new) (limit_of x) scene.setup (submitted item lists) bio master (leg + 1),
        ap (unless (leg + 1 == legs)) copy,
        unless_none (leg + 1 == legs),
        sum_by_push (bio_strays new) lists.list0 item,
        fits,
      ))
  -- drops that leave a node open, drops that close a node, gives, ends of writes, resizes and rounds
  stays_of_one_write (moves.Told place disk carried writer key status part node) c = same (moves.Told place disk carried writer key status part node) c (omega arith)
  stays_of_one_write (moves.Closes place disk carried writer key status part node) c = same (moves.Closes place disk carried writer key status part node) c (omega arith)
  stays_of_one_write (moves.Gives place disk writer number closed held) c = same (moves.Gives place disk writer number closed held) c (omega arith)
  stays_of_one_write (moves.Ends place disk writer closed) c = same (moves.Ends place disk writer closed) c (omega arith)
  stays_of_one_write (moves.Resized place pool min later duties) c = same (moves.Resized place pool min later duties) c (omega arith)
  stays_of_one_write (moves.Started place round later duties) c = same (moves.Started place round later duties) c (omega arith)

  -- a node is of the write of the one that it is under
  pub child_of_write : (writer key parent : ℕ) (child node : Node) → node_at (s.objects.book writer) key ≡ Some child → parent_of child.role ≡ Some parent
      → node_at (s.objects.book writer) parent ≡ Some node → child.write ≡ node.write
  child_of_write writer key parent child node at under_it up =
      let same : parent_strays write_of writer (parent_of child.role) child.write ≡ apart (write_of writer parent) child.write = ap (λ p. parent_strays write_of writer p child.write) under_it in
      omega (arith, none, same, node_part scene s i (strays write_of) writer key child at, node_write writer parent node up)

-- the writes of places of which all is, as facts
module _ (scene : Scene) (s : State) (i : Invariant scene s) (write_of : ℕ → ℕ → ℕ) (none : total_weight scene (strays write_of) s ≡ 0) where
  are_of_one_write : AreOfOneWrite scene s
  are_of_one_write = record {
    write_of = write_of;
    opened = node_write scene s i write_of none;
    named = each_bio (λ item. write_of item.bio.writer item.bio.node ≡ item.bio.write) (strays write_of) (λ spot item zero. omega (arith, zero)) scene s none;
    copied = each_copied (λ bio master. write_of bio.writer master ≡ bio.write) (strays write_of) (λ bio master leg zero. omega (arith, zero)) scene s i none;
    under = λ writer place node parent at is.
        let here : parent_strays write_of writer (parent_of node.role) node.write ≡ apart (write_of writer parent) node.write =
        ap (λ p. parent_strays write_of writer p node.write) is in
        omega (arith, none, here, node_part scene s i (strays write_of) writer place node at);
    carried = λ place disk writer closed parent lt is is_under.
        let here : parent_strays write_of writer closed.parent closed.write ≡ apart (write_of writer parent) closed.write =
        ap (λ p. parent_strays write_of writer p closed.write) is_under in
        omega (arith, none, here, task_part scene (strays write_of) s place (Completer disk (Carries writer closed)) lt is);
  }

-- every run keeps it
module _ (scene : Scene) (f : LedgersAreNumbered scene) (g : DeviceGeometry scene.setup) where
  pub runs_of_one_write : (s : State) (events : List Event) (new : State) → IsReachedWhole scene s → NoneStrays scene s → IsRun scene s events new → NoneStrays scene new
  runs_of_one_write s [] new i t run = subst (NoneStrays scene) (sym run) t
  runs_of_one_write s (event ∷ events) new i t (next, (place, steps), run) =
      let moved = step_is_move scene s f i.kept place event next steps in
      runs_of_one_write next events new (runs_whole scene f g s (event ∷ []) next i (next, (place, steps), refl))
      (subst (NoneStrays scene) (sym moved.is) (stays_of_one_write scene s i.kept t.0 t.1 moved.move moved.can)) run

pub start_of_one_write : (s : Scenario) → IsScenario s → (ledger : ℕ → LedgerId) → NoneStrays (scene s ledger) (start s)
start_of_one_write s good ledger = (λ writer place. 0, total_zero (scene s ledger) (start s) (strays (λ writer place. 0)) (λ n todos. refl) (start_opened s good ledger))

pub none_strays : (s : Scenario) (ledger : ℕ → LedgerId) (events : List Event) (state : State) → IsScenario s → IsNaming ledger
    → IsRun (scene s ledger) (start s) events state → NoneStrays (scene s ledger) state
none_strays s ledger events state good naming run =
    runs_of_one_write (scene s ledger) (record { named = naming }) (ground s.stack good.stack (setup_in s).places) (start s) events state (start_whole s ledger good naming)
    (start_of_one_write s good ledger) run

pub all_of_one_write : AllAreOfOneWrite
all_of_one_write s ledger events state good naming run =
    let none = none_strays s ledger events state good naming run in
    let i =
    runs_whole (scene s ledger) (record { named = naming }) (ground s.stack good.stack (setup_in s).places) (start s) events state (start_whole s ledger good naming) run in
    are_of_one_write (scene s ledger) state i.kept none.0 none.1
