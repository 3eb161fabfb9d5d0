-- Events keep all nodes on levels.
use Rattle.std.proofs.Common.{◌≡◌, ◌+◌, ◌-◌, ◌*◌, ◌<◌, ◌≤◌, ◌==◌, ℕ, [], ◌∷◌, Option, None, Some, inl, inr, refl, sym, ◌∙◌, ap, subst, arith}
use Rattle.std.proofs.lemmas.List.Sums.{sum_by-cons, sum_by_push}
use Rattle.stack_base.specs.declared.ids.DevId.{DevId}
use Rattle.stack_base.specs.declared.ids.Status.{Status}
use Rattle.stack_base.specs.Tree.{Tree, Leaf, Split, Mirrored}
use Rattle.bio_records.specs.declared.bio.Bio.{Bio}
use Rattle.bio_records.specs.declared.bio.Pad.{Pad}
use Rattle.bio_records.specs.Items.{Item}
use Rattle.bio_lists.specs.Submission.{submitted}
use Rattle.bio_books.specs.Books.{Node, VectorItem, SlipItem, Holding, parent_of, told, later_part}
use Rattle.bio_books.specs.Drops.{Closed, closed_of}
use Rattle.bio_books.specs.Links.{IsVacant}
use Rattle.run_machine.specs.Scene.{Scene, tree_at}
use Rattle.run_machine.specs.Submissions.{Links, ToCut, ToMaster, Drives, Copies, first_length, legs_of, leg_at}
use Rattle.run_machine.specs.Tasks.{Completer, Todo, Carried, Empty, Brings, Carries, Fails}
use Rattle.run_machine.specs.Runs.{State}
use Rattle.block_core.specs.Weights.{total_weight, weigh_option, task_weight, carried_weight}
use Rattle.block_core.proofs.moves.Sums.{apart}
use Rattle.block_core.proofs.moves.Moves.{Move, Can, after, lost, gained, limit_of, gathered_of, filled_of, vector_of, cut_lists, TellsNode, Releases, piece}
use Rattle.block_core.proofs.moves.Moves as moves
use Rattle.block_core.proofs.sound.Invariant.{TaskIsSound, Invariant}
use Rattle.block_core.proofs.sound.TaskSubmissions.{submission_fits}
use Rattle.block_core.proofs.sound.Orders.{AskFits, HandHome, TaskPlaced, Placed, DeviceGeometry}
use Rattle.std.specs.Prelude.{min}
use Rattle.block_core.proofs.sound.OrdersKept.{placed_at, record_own}
use Rattle.block_core.proofs.moves.Deltas.{other_place, delta}
use Rattle.block_core.proofs.sound.SumParts.{copies_weight, unless, unless_none, cut_weight, submission_part}
use Rattle.block_core.proofs.moves.Totals.{part_of}
use Rattle.block_core.proofs.moves.SubmissionWeights.{IsBlind, landed_same, first_weight, goes_weight}
use Rattle.block_core.proofs.sound.OffLevels.{bio_off, parent_off, held_off, first_level, held_level, below_off, closed_off, off_levels, AreLeveled}
use Rattle.block_core.proofs.moves.VacantMarks.{with_mark, mark_here, mark_other}
use Rattle.block_core.proofs.sound.Levels.{total_null}
use Rattle.block_core.proofs.stuck.Idle.{node_part}

blind_levels : (level : ℕ → ℕ → ℕ) → IsBlind (off_levels level)
blind_levels level limit item t = landed_same (λ (bio : Bio). apart (level bio.writer bio.node) (min item.share.no 64)) (λ to members bio. refl) t item.bio

-- a bio on the level of its node
at_level : (level : ℕ → ℕ → ℕ) (item : Item Pad) (n : ℕ) → item.share.no ≡ n → n ≤ 64 → level item.bio.writer item.bio.node ≡ n → bio_off level item ≡ 0
at_level level item n share le is = rw (is, share) (omega (arith, le))

-- a leg's bio
leg_on : (level : ℕ → ℕ → ℕ) (bio : Bio) (hand : Item Pad) (leg key n : ℕ) (t : Tree) → leg < legs_of t → hand.share.no ≡ n → n ≤ 64 → level bio.writer key ≡ n → bio_off level (leg_at bio hand leg key t) ≡ 0
leg_on level bio hand leg key n (Leaf number sectors) lt share le is = absurd (omega (arith, lt))
leg_on level bio hand leg key n (Split number kind sizes members) lt share le is = absurd (omega (arith, lt))
leg_on level bio hand leg key n (Mirrored number sizes members) lt share le is = at_level level (leg_at bio hand leg key (Mirrored number sizes members)) n share le is

-- what a node holds once it was told
pub told_on : (level : ℕ → ℕ → ℕ) (writer key : ℕ) (status : Status) (part : Option (Item Pad)) (carried : Carried) (node : Node) → TellsNode carried writer key status part
    → carried_weight (off_levels level) 0 carried ≡ 0 → held_off (level writer key) (told node status part).held ≤ held_off (level writer key) node.held
told_on level writer key status part (Brings bio ending) node t off =
    let own : level bio.bio.writer bio.bio.node ≡ level writer key = ap (level bio.bio.writer) (sym t.1) ∙ ap (λ v. level v key) (sym t.0) in
    let none : apart (level writer key) (min bio.share.no 64) ≡ 0 = omega (arith, own, off) in
    let is : held_off (level writer key) (told node status part).held ≡ held_off (level writer key) (record node.held { bio = Some bio }) =
    ap (λ p. held_off (level writer key) (record node.held { bio = later_part node.held.bio p })) t.3 in
    omega (arith, is, none)
told_on level writer key status part (Carries of closed) node t off =
    let is : held_off (level writer key) (told node status part).held ≡ held_off (level writer key) node.held =
    ap (λ p. held_off (level writer key) (record node.held { bio = later_part node.held.bio p })) t.3 in
    omega (arith, is)
told_on level writer key status part Empty node t off = absurd t
told_on level writer key status part (Fails breach kept) node t off = absurd t

-- what is off one level is off no other one, and that is the first level
held_once : (l : ℕ) (held : Holding) → held_off l held ≡ 0 → (held_level held ≤ l) × (held_off (held_level held) held ≡ 0)
held_once l held none = by_three held.bio held.vector held.slip none
  where
    by_three : (bio : Option (Item Pad)) (vector : Option VectorItem) (slip : Option SlipItem)
        → held_off l (record { bio = bio; vector = vector; slip = slip }) ≡ 0
        → (first_level bio vector slip ≤ l) × (held_off (first_level bio vector slip) (record { bio = bio; vector = vector; slip = slip }) ≡ 0)
    by_three (Some bio) (Some vector) (Some slip) none = (omega (arith, none), omega (arith, none))
    by_three (Some bio) (Some vector) None none = (omega (arith, none), omega (arith, none))
    by_three (Some bio) None (Some slip) none = (omega (arith, none), omega (arith, none))
    by_three (Some bio) None None none = (omega (arith, none), omega (arith, none))
    by_three None (Some vector) (Some slip) none = (omega (arith, none), omega (arith, none))
    by_three None (Some vector) None none = (omega (arith, none), omega (arith, none))
    by_three None None (Some slip) none = (omega (arith, none), omega (arith, none))
    by_three None None None none = (omega arith, omega arith)

below_less : (level : ℕ → ℕ) (own l : ℕ) (parent : Option ℕ) → own ≤ l → below_off level own parent ≤ below_off level l parent
below_less level own l None le = omega arith
below_less level own l (Some parent) le = omega (arith, le)

-- with one element less
less_off : (l : ℕ) (old new : Holding) (number : ℕ) → Releases old number new → held_off l new ≤ held_off l old
less_off l old new number (inl (vector, has, share, is)) = rw is (omega arith)
less_off l old new number (inr (inl (bio, has, share, is))) = rw is (omega arith)
less_off l old new number (inr (inr (slip, has, share, is))) = rw is (omega arith)

less_closed : (level : ℕ → ℕ) (closed : Closed) (held : Holding) (number : ℕ) → Releases closed.held number held → closed_off level closed ≡ 0
    → closed_off level (record closed { held = held }) ≡ 0
less_closed level closed held number hands none =
    let own = held_level closed.held in
    let h = held_once own held (omega (arith, none, less_off own closed.held held number hands)) in
    let low = h.0 in
    let off = h.1 in
    omega (arith, off, below_less level (held_level held) own closed.parent low, none)

-- what is left of a node that closes is of the level of the node
closes_on : (level : ℕ → ℕ → ℕ) (writer key : ℕ) (node : Node) → held_off (level writer key) node.held ≡ 0 → parent_off level writer key (parent_of node.role) ≡ 0
    → closed_off (level writer) (closed_of node) ≡ 0
closes_on level writer key node held up =
    let h = held_once (level writer key) node.held held in
    let low = h.0 in
    let off = h.1 in
    let same : below_off (level writer) (level writer key) (parent_of node.role) ≡ parent_off level writer key (parent_of node.role) = by_parent (parent_of node.role) in
    omega (arith, off, same, up, below_less (level writer) (held_level node.held) (level writer key) (parent_of node.role) low)
  where
    by_parent : (parent : Option ℕ) → below_off (level writer) (level writer key) parent ≡ parent_off level writer key parent
    by_parent None = refl
    by_parent (Some parent) = refl

-- the vector of a write is on the level of its top
vector_on : (level : ℕ → ℕ → ℕ) (writer key : ℕ) (todo : Todo) (item : Item Pad) (vector : Option VectorItem) → HandHome (gathered_of item vector) → level writer key ≡ 64
    → weigh_option (λ (v : VectorItem). apart (level writer key) (min v.share.no 64)) (vector_of todo vector) ≡ 0
vector_on level writer key todo item None home is = refl
vector_on level writer key todo item (Some vector) home is = let own = home.1 in omega (arith, own, is)

-- and so is its bio
begun_on : (level : ℕ → ℕ → ℕ) (writer : ℕ) (todo : Todo) (item : Item Pad) (vector : Option VectorItem) (key : ℕ) → HandHome (gathered_of item vector) → level writer key ≡ 64
    → bio_off level (filled_of writer todo item vector key) ≡ 0
begun_on level writer todo item None key home is = rw (is, home) (omega arith)
begun_on level writer todo item (Some vector) key home is = rw (is, home.0) (omega arith)

module _ (scene : Scene) (s : State) (g : DeviceGeometry scene.setup) (i : Invariant scene s) (p : Placed scene.setup s) (level : ℕ → ℕ → ℕ) (off : total_weight scene (off_levels level) s ≡ 0) where
  -- the levels stay
  same : (m : Move) → Can scene s m → gained scene (off_levels level) s m ≤ lost scene (off_levels level) s m → AreLeveled scene (after scene s m)
  same m c le = (level, omega (arith, off, delta scene (off_levels level) s m c, le))

  -- a vacant place gets one
  one_more : (m : Move) → Can scene s m → (writer key n : ℕ) → IsVacant (s.objects.book writer) key
      → gained scene (off_levels (with_mark level writer key n)) s m ≤ lost scene (off_levels (with_mark level writer key n)) s m → AreLeveled scene (after scene s m)
  one_more m c writer key n v le =
      (with_mark level writer key n, omega (arith, total_null level writer key n scene s i v off, delta scene (off_levels (with_mark level writer key n)) s m c, le))

  -- what a completer carries is on its level
  carried_off : (place : ℕ) (disk : DevId) (carried : Carried) → place < scene.tasks → s.task place ≡ Completer disk carried → carried_weight (off_levels level) 0 carried ≡ 0
  carried_off place disk carried lt is =
      let a : task_weight (off_levels level) place (s.task place) ≡ carried_weight (off_levels level) 0 carried = ap (task_weight (off_levels level) 0) is in
      omega (arith, a, part_of (task_weight (off_levels level)) scene.tasks s.task place lt, off)

  pub stays_leveled : (m : Move) → Can scene s m → AreLeveled scene (after scene s m)
  -- takes, misses, punts, pops, pushes and completions
  stays_leveled (moves.TakesFirst place writer todo later move) c = same (moves.TakesFirst place writer todo later move) c (omega arith)
  stays_leveled (moves.TakesVector place writer todo later item move) c = same (moves.TakesVector place writer todo later item move) c (omega arith)
  stays_leveled (moves.TakesSub place x doing lists dev waits move) c = same (moves.TakesSub place x doing lists dev waits move) c (omega arith)
  stays_leveled (moves.TakesSlip place x bio lists move) c = same (moves.TakesSlip place x bio lists move) c (omega arith)
  stays_leveled (moves.MissesOne place x number used) c = same (moves.MissesOne place x number used) c (omega arith)
  stays_leveled (moves.MissesTry place x doing lists dev used) c = same (moves.MissesTry place x doing lists dev used) c (omega arith)
  stays_leveled (moves.Punts place x doing lists dev) c = same (moves.Punts place x doing lists dev) c (omega arith)
  stays_leveled (moves.Pops place dev bio bios) c =
      same (moves.Pops place dev bio bios) c (omega (arith, first_weight (off_levels level) (blind_levels level) dev.0 scene.setup (bio ∷ []), sum_by-cons (bio_off level) bio []))
  stays_leveled (moves.Pushes place x bio lists) c =
      same (moves.Pushes place x bio lists) c (omega (arith, goes_weight (off_levels level) (blind_levels level) (limit_of x) scene.setup bio.bio.dev lists))
  stays_leveled (moves.Completed place disk index bio status new) c = same (moves.Completed place disk index bio status new) c (omega arith)
  -- links of writes
  stays_leveled (moves.Begins place writer todo later item vector key) c =
      let new = with_mark level writer key 64 in
      let here = mark_here level writer key 64 in
      let t = subst (TaskPlaced scene.setup) c.1 (p.tasks place) in
      one_more (moves.Begins place writer todo later item vector key) c writer key 64 c.3
      (omega (
        arith,
        first_weight (off_levels new) (blind_levels new) 32 scene.setup (filled_of writer todo item vector key ∷ []),
        sum_by-cons (bio_off new) (filled_of writer todo item vector key) [],
        begun_on new writer todo item vector key t.2 here,
        vector_on new writer key todo item vector t.2 here,
      ))
  -- links of pieces
  stays_leveled (moves.Chained place x bio lists hand number kind sizes members key node) c =
      let n = first_length kind sizes bio.bio.range in
      let dev = bio.bio.dev.0 in
      let new = with_mark level bio.bio.writer key (2 * dev) in
      let here = mark_here level bio.bio.writer key (2 * dev) in
      let d = placed_at scene.setup s p place x (Drives bio (ToCut (Links hand))) lists c.1 c.2 in
      let known = d.1.0.0.device in
      let few = g.few in
      let suits : AskFits (Split number kind sizes members) bio.bio.range dev (ToCut (Links hand)) = subst (λ t. AskFits t bio.bio.range dev (ToCut (Links hand))) c.3 d.3 in
      let part = submission_part scene (off_levels level) s place x (Drives bio (ToCut (Links hand))) lists c.0 c.1 c.2 in
      let parent : new bio.bio.writer bio.bio.node ≡ level bio.bio.writer bio.bio.node =
      mark_other level bio.bio.writer key (2 * dev) bio.bio.writer bio.bio.node (inr (other_place (s.objects.book bio.bio.writer) key bio.bio.node node c.6 c.5)) in
      let up = d.1.0.1 in
      let above : 2 * dev + 1 ≤ level bio.bio.writer bio.bio.node = omega (arith, part, off, up, known, few) in
      let fits : bio_off new (piece bio hand n key kind sizes members) ≡ 0 = at_level new (piece bio hand n key kind sizes members) (2 * dev) suits.1 (omega (arith, known, few)) here in
      let child : (new bio.bio.writer key + 1) - new bio.bio.writer bio.bio.node ≡ 0 = omega (arith, here, parent, above) in
      one_more (moves.Chained place x bio lists hand number kind sizes members key node) c bio.bio.writer key (2 * dev) c.6
      (omega (
        arith,
        goes_weight (off_levels new) (blind_levels new) (limit_of x) scene.setup bio.bio.dev (cut_lists bio lists hand n key kind sizes members),
        cut_weight (bio_off new) bio lists hand n key kind sizes members,
        fits,
        child,
      ))
  -- links of masters
  stays_leveled (moves.Mastered place x bio lists slip key node) c =
      let dev = bio.bio.dev.0 in
      let new = with_mark level bio.bio.writer key (2 * dev + 1) in
      let here = mark_here level bio.bio.writer key (2 * dev + 1) in
      let legs = legs_of (tree_at scene.setup bio.bio.dev) in
      let d = placed_at scene.setup s p place x (Drives bio (ToMaster slip)) lists c.1 c.2 in
      let known = d.1.0.0.device in
      let few = g.few in
      let own : slip.share.no ≡ 2 * dev + 1 = record_own (tree_at scene.setup bio.bio.dev) bio.bio.range bio.bio.dev.0 slip d.3 in
      let part = submission_part scene (off_levels level) s place x (Drives bio (ToMaster slip)) lists c.0 c.1 c.2 in
      let parent : new bio.bio.writer bio.bio.node ≡ level bio.bio.writer bio.bio.node =
      mark_other level bio.bio.writer key (2 * dev + 1) bio.bio.writer bio.bio.node (inr (other_place (s.objects.book bio.bio.writer) key bio.bio.node node c.5 c.4)) in
      let up = d.1.0.1 in
      let above : 2 * dev + 2 ≤ level bio.bio.writer bio.bio.node = omega (arith, part, off, up, known, few) in
      let at_own : apart (level bio.bio.writer bio.bio.node) (min bio.share.no 64) ≡ 0 = omega (arith, part, off) in
      let child : (new bio.bio.writer key + 1) - new bio.bio.writer bio.bio.node ≡ 0 = omega (arith, here, parent, above) in
      let holds : apart (new bio.bio.writer key) (min slip.share.no 64) ≡ 0 = omega (arith, here, own, known, few) in
      let keeps : apart (new bio.bio.writer bio.bio.node) (min bio.share.no 64) ≡ 0 = omega (arith, parent, at_own) in
      let copy : apart (new bio.bio.writer key) (2 * dev + 1) ≡ 0 = omega (arith, here) in
      one_more (moves.Mastered place x bio lists slip key node) c bio.bio.writer key (2 * dev + 1) c.5
      (omega (
        arith,
        copies_weight (off_levels new) (blind_levels new) (limit_of x) scene.setup lists bio.bio key 0,
        ap (unless (0 == legs)) copy,
        unless_none (0 == legs),
        child,
        holds,
        keeps,
      ))
  -- links of legs
  stays_leveled (moves.Legged place x bio lists master leg hand key node) c =
      let dev = bio.dev.0 in
      let new = with_mark level bio.writer key (2 * dev) in
      let here = mark_here level bio.writer key (2 * dev) in
      let legs = legs_of (tree_at scene.setup bio.dev) in
      let item = leg_at bio hand leg key (tree_at scene.setup bio.dev) in
      let d = placed_at scene.setup s p place x (Copies bio master leg (Links hand)) lists c.1 c.2 in
      let known = d.0.device in
      let few = g.few in
      let lt = submission_fits scene x (Copies bio master leg (Links hand)) lists (subst (TaskIsSound scene) c.1 (i.tasks place)) c.2 in
      let part = submission_part scene (off_levels level) s place x (Copies bio master leg (Links hand)) lists c.0 c.1 c.2 in
      let parent : new bio.writer master ≡ level bio.writer master =
      mark_other level bio.writer key (2 * dev) bio.writer master (inr (other_place (s.objects.book bio.writer) key master node c.5 c.4)) in
      let above : level bio.writer master ≡ 2 * dev + 1 = omega (arith, part, off) in
      let fits : bio_off new item ≡ 0 = leg_on new bio hand leg key (2 * dev) (tree_at scene.setup bio.dev) lt d.6 (omega (arith, known, few)) here in
      let child : (new bio.writer key + 1) - new bio.writer master ≡ 0 = omega (arith, here, parent, above) in
      let copy : apart (new bio.writer master) (2 * dev + 1) ≡ 0 = omega (arith, parent, above) in
      one_more (moves.Legged place x bio lists master leg hand key node) c bio.writer key (2 * dev) c.5
      (omega (
        arith,
        copies_weight (off_levels new) (blind_levels new) (limit_of x) scene.setup (submitted item lists) bio master (leg + 1),
        ap (unless (leg + 1 == legs)) copy,
        unless_none (leg + 1 == legs),
        sum_by_push (bio_off new) lists.list0 item,
        fits,
        child,
      ))
  -- drops that leave a node open
  stays_leveled (moves.Told place disk carried writer key status part node) c =
      let own = carried_off place disk carried c.0 c.1 in
      same (moves.Told place disk carried writer key status part node) c (omega (arith, told_on level writer key status part carried node c.2 own))
  -- drops that close a node, gives, ends of writes, resizes and rounds
  stays_leveled (moves.Closes place disk carried writer key status part node) c =
      let own = carried_off place disk carried c.0 c.1 in
      let held = told_on level writer key status part carried node c.2 own in
      let at_node = node_part scene s i (off_levels level) writer key node c.4 in
      let none : held_off (level writer key) (told node status part).held ≡ 0 = omega (arith, held, at_node, off) in
      same (moves.Closes place disk carried writer key status part node) c (omega (arith, closes_on level writer key (told node status part) none (omega (arith, at_node, off))))
  stays_leveled (moves.Gives place disk writer number closed held) c =
      let own : closed_off (level writer) closed ≡ 0 = carried_off place disk (Carries writer closed) c.0 c.1 in
      same (moves.Gives place disk writer number closed held) c (omega (arith, less_closed (level writer) closed held number c.2 own))
  stays_leveled (moves.Ends place disk writer closed) c = same (moves.Ends place disk writer closed) c (omega arith)
  stays_leveled (moves.Resized place pool min later duties) c = same (moves.Resized place pool min later duties) c (omega arith)
  stays_leveled (moves.Started place round later duties) c = same (moves.Started place round later duties) c (omega arith)
