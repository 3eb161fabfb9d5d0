-- Events keep it that one master at most stands for the own part of each open node.
use Rattle.std.proofs.Common.{◌≡◌, ◌+◌, ◌*◌, ◌≤◌, ◌==◌, if◌then◌else◌, ℕ, Bool, true, false, List, [], ◌∷◌, Option, None, Some, inl, inr, refl, sym, ◌∙◌, ap, subst, arith}
use Rattle.stack_base.specs.declared.ids.Status.{Status}
use Rattle.stack_base.specs.declared.ids.SetId.TheVariants.{Of}
use Rattle.bio_records.specs.declared.bio.Pad.{Pad}
use Rattle.bio_records.specs.Items.{Item}
use Rattle.bio_lists.specs.Submission.{submitted}
use Rattle.bio_lists.specs.Punt.{punted}
use Rattle.bio_books.specs.Books.{Node, BookState, node_at, parent_of, top_node, child_node, master_node, leg_node, with_kept_part, raised, lowered, told}
use Rattle.bio_books.specs.Links.{IsVacant}
use Rattle.run_machine.specs.declared.event.Event.{Event}
use Rattle.run_machine.specs.Maps.{upd}
use Rattle.run_machine.specs.Scene.{Setup, Scene, tree_at}
use Rattle.run_machine.specs.Submissions.{ToMaster, Drives, first_length, legs_of, leg_at}
use Rattle.run_machine.specs.Tasks.{Carried, Brings}
use Rattle.run_machine.specs.Runs.{State, IsRun}
use Rattle.block_core.specs.Weights.{Weight, total_weight, one_if_same, task_weight, carried_weight, under}
use Rattle.block_core.proofs.moves.References.{references}
use Rattle.block_core.specs.Touches.{touch_of, is_master, is_master_at, masters_after, were_masters}
use Rattle.block_core.specs.Roles.{named, masters, children, legs_to_make}
use Rattle.block_core.proofs.moves.Moves.{Move, place_of, touch_by, Can, after, lost, gained, limit_of, filled_of, vector_of, cut_lists, TellsNode}
use Rattle.block_core.proofs.moves.Moves as moves
use Rattle.block_core.proofs.moves.Sums.{upd-same, upd-other, same_or_not, one-same, one-other}
use Rattle.block_core.proofs.sound.Invariant.{own_part, own_of, LedgersAreNumbered, Invariant}
use Rattle.block_core.proofs.sound.Orders.{DeviceGeometry}
use Rattle.block_core.proofs.sound.EveryRun.{IsReachedWhole, step_whole}
use Rattle.block_core.proofs.moves.StepMoves.{step_is_move}
use Rattle.block_core.proofs.moves.Deltas.{vacant_at, delta}
use Rattle.block_core.proofs.sound.SumParts.{copies_weight, unless_none, is_away}
use Rattle.block_core.proofs.moves.BookMaps.{made, became, chained}
use Rattle.block_core.proofs.moves.SubmissionWeights.{IsBlind, first_weight, goes_weight}
use Rattle.block_core.proofs.sound.OwnParts.{brought, told_own, own_some}
use Rattle.block_core.proofs.moves.VacantMarks.{no_ref}
use Rattle.block_core.proofs.sound.Splitting.{IsSumOf, total_sum, IsSameButClosed, total_but}
use Rattle.block_core.proofs.sound.Misplaced.{ArePlaced, was_after, stays_right}
use Rattle.block_core.proofs.images.MasterRecords.{zeros}
use Rattle.block_core.proofs.sound.SumParts as parts

-- what refers to a node
pub refs_are : (setup : Setup) (was_master : ℕ → Bool) (w k : ℕ) → IsSumOf (references setup w k) (named w k) (masters was_master w k) (children was_master w k) (legs_to_make setup w k)
refs_are setup was_master w k = record {
  todo = λ writer todos taken. refl;
  bio = λ spot item. omega arith;
  copy = λ bio master leg. omega arith;
  hand = λ item. refl;
  vector = λ vector. refl;
  slip = λ slip. refl;
  node = λ writer place node. by_test (is_master node.role) (under w k writer (parent_of node.role));
  closed = λ task writer closed. by_test (was_master task) (under w k writer closed.parent);
}
  where
    by_test : (b : Bool) (n : ℕ) → n ≡ 0 + (if b then n else 0) + (if b then 0 else n) + 0
    by_test true n = omega arith
    by_test false n = omega arith

blind : (was_master : ℕ → Bool) (w k : ℕ) → IsBlind (masters was_master w k)
blind was_master w k limit item t = refl

same_but : (was_master other : ℕ → Bool) (w k : ℕ) → IsSameButClosed (masters was_master w k) (masters other w k)
same_but was_master other w k = record { todo = refl; bio = refl; copy = refl; hand = refl; vector = refl; slip = refl; node = refl }

-- a node that is told of an end by a part keeps it then, and else what it kept
less_own : (writer key : ℕ) (status : Status) (part : Option (Item Pad)) (carried : Carried) (node : Node) → TellsNode carried writer key status part
    → ((bio : Item Pad) (ending : Status) → carried ≡ Brings bio ending → (node.held.bio ≡ None) × (own_part node.role None ≡ 1))
    → own_of (Some (lowered (told node status part))) ≤ own_of (Some node)
less_own writer key status part carried node t none = omega (arith, told_own writer key status part carried node t none)

abbrev pub AreStoodFor : Scene → State → (ℕ → Bool) → Type 0
AreStoodFor scene s was_master = (w k : ℕ) → total_weight scene (masters was_master w k) s + own_of (node_at (s.objects.book w) k) ≤ 1

module _ (scene : Scene) (s : State) (i : Invariant scene s) (was_master : ℕ → Bool) (all : AreStoodFor scene s was_master) where
  abbrev w_of : ℕ → ℕ → Weight
  w_of w k = masters was_master w k

  same : (m : Move) → Can scene s m → (w k : ℕ) → (after scene s m).objects.book ≡ s.objects.book → gained scene (w_of w k) s m ≤ lost scene (w_of w k) s m
      → total_weight scene (w_of w k) (after scene s m) + own_of (node_at ((after scene s m).objects.book w) k) ≤ 1
  same m c w k books le =
      let b : own_of (node_at ((after scene s m).objects.book w) k) ≡ own_of (node_at (s.objects.book w) k) = ap (λ (book : ℕ → BookState). own_of (node_at (book w) k)) books in
      omega (arith, b, all w k, delta scene (w_of w k) s m c, le)

  -- no master is under a vacant place
  at_vacant : (writer key : ℕ) → IsVacant (s.objects.book writer) key → (w k : ℕ)
      → total_weight scene (w_of w k) s + own_of (node_at (s.objects.book w) k) + one_if_same writer w * (one_if_same key k * 1) ≤ 1
  at_vacant writer key v w k = elim (same_or_not writer w) [
    | inl e ↦ elim (same_or_not key k) [
      | inl also ↦
          let P : ℕ → ℕ → Type 0 = λ a b. total_weight scene (w_of a b) s + own_of (node_at (s.objects.book a) b) + one_if_same writer a * (one_if_same key b * 1) ≤ 1 in
          let none : own_of (node_at (s.objects.book writer) key) ≡ 0 = ap own_of (vacant_at (s.objects.book writer) key v).0 in
          let here : P writer key =
          rw (one-same writer, one-same key)
          (omega (
            arith,
            none,
            no_ref scene s i writer key v,
            total_sum (references scene.setup writer key) _ _ _ _ (refs_are scene.setup was_master writer key) scene s,
          )) in
          subst (P w) also (subst (λ a. P a key) e here)
      | inr ne ↦ let z = one-other key k ne in omega (arith, all w k, ap (λ n. one_if_same writer w * (n * 1)) z)
    ]
    | inr ne ↦ let z = one-other writer w ne in omega (arith, all w k, ap (λ n. n * (one_if_same key k * 1)) z)
  ]

  pub stays_stood_for : (m : Move) → Can scene s m → AreStoodFor scene (after scene s m) (was_after was_master m)
  -- takes, misses, punts, pops, pushes and completions
  stays_stood_for (moves.TakesFirst place writer todo later move) c w k = same (moves.TakesFirst place writer todo later move) c w k refl (omega arith)
  stays_stood_for (moves.TakesVector place writer todo later item move) c w k = same (moves.TakesVector place writer todo later item move) c w k refl (omega arith)
  stays_stood_for (moves.TakesSub place x doing lists dev waits move) c w k = same (moves.TakesSub place x doing lists dev waits move) c w k refl (omega arith)
  stays_stood_for (moves.TakesSlip place x bio lists move) c w k = same (moves.TakesSlip place x bio lists move) c w k refl (omega arith)
  stays_stood_for (moves.MissesOne place x number used) c w k = same (moves.MissesOne place x number used) c w k refl (omega arith)
  stays_stood_for (moves.MissesTry place x doing lists dev used) c w k = same (moves.MissesTry place x doing lists dev used) c w k refl (omega arith)
  stays_stood_for (moves.Punts place x doing lists dev) c w k = same (moves.Punts place x doing lists dev) c w k refl (omega (arith, zeros (punted (Of dev) lists)))
  stays_stood_for (moves.Pops place dev bio bios) c w k =
      same (moves.Pops place dev bio bios) c w k refl (omega (arith, first_weight (w_of w k) (blind was_master w k) dev.0 scene.setup (bio ∷ []), zeros (bio ∷ [])))
  stays_stood_for (moves.Pushes place x bio lists) c w k =
      same (moves.Pushes place x bio lists) c w k refl
      (omega (arith, goes_weight (w_of w k) (blind was_master w k) (limit_of x) scene.setup bio.bio.dev lists, zeros lists.list0, zeros lists.list1))
  stays_stood_for (moves.Completed place disk index bio status new) c w k = same (moves.Completed place disk index bio status new) c w k refl (omega arith)
  -- links of writes
  stays_stood_for (moves.Begins place writer todo later item vector key) c w k =
      let first = filled_of writer todo item vector key ∷ [] in
      omega (
        arith,
        at_vacant writer key c.3 w k,
        delta scene (w_of w k) s (moves.Begins place writer todo later item vector key) c,
        first_weight (w_of w k) (blind was_master w k) 32 scene.setup first,
        zeros first,
        made own_of refl s.objects.book writer key (top_node todo.number (vector_of todo vector)) w k 1 c.3 refl,
      )
  -- links of pieces
  stays_stood_for (moves.Chained place x bio lists hand number kind sizes members key node) c w k =
      let cut = cut_lists bio lists hand (first_length kind sizes bio.bio.range) key kind sizes members in
      omega (
        arith,
        at_vacant bio.bio.writer key c.6 w k,
        delta scene (w_of w k) s (moves.Chained place x bio lists hand number kind sizes members key node) c,
        goes_weight (w_of w k) (blind was_master w k) (limit_of x) scene.setup bio.bio.dev cut,
        zeros cut.list0,
        zeros cut.list1,
        chained own_of refl s.objects.book bio.bio.writer key bio.bio.node node (child_node node.write bio.bio.node) (raised node) w k 1 0 0 c.6 c.5 refl refl,
      )
  -- links of masters
  stays_stood_for (moves.Mastered place x bio lists slip key node) c w k =
      let legs = legs_of (tree_at scene.setup bio.bio.dev) in
      let part = parts.submission_part scene (named bio.bio.writer bio.bio.node) s place x (Drives bio (ToMaster slip)) lists c.0 c.1 c.2 in
      let a = parts.named_away scene s bio node i c.4 (omega (arith, part)) in
      let b : own_part node.role node.held.bio ≡ own_part node.role None = ap (own_part node.role) a.0 in
      let lost_own : own_of (Some (with_kept_part bio node)) + 1 ≡ own_of (Some node) + 0 = omega (arith, a.1, b, own_some node.role bio) in
      omega (
        arith,
        all w k,
        delta scene (w_of w k) s (moves.Mastered place x bio lists slip key node) c,
        copies_weight (w_of w k) (blind was_master w k) (limit_of x) scene.setup lists bio.bio key 0,
        unless_none (0 == legs),
        zeros lists.list0,
        zeros lists.list1,
        chained own_of refl s.objects.book bio.bio.writer key bio.bio.node node (master_node node.write bio.bio.node slip legs) (with_kept_part bio node) w k 0 0 1 c.5 c.4 refl lost_own,
      )
  -- links of legs
  stays_stood_for (moves.Legged place x bio lists master leg hand key node) c w k =
      let legs = legs_of (tree_at scene.setup bio.dev) in
      let item = leg_at bio hand leg key (tree_at scene.setup bio.dev) in
      omega (
        arith,
        at_vacant bio.writer key c.5 w k,
        delta scene (w_of w k) s (moves.Legged place x bio lists master leg hand key node) c,
        copies_weight (w_of w k) (blind was_master w k) (limit_of x) scene.setup (submitted item lists) bio master (leg + 1),
        unless_none (leg + 1 == legs),
        zeros (submitted item lists).list0,
        zeros lists.list1,
        made own_of refl s.objects.book bio.writer key (leg_node node.write master) w k 1 c.5 refl,
      )
  -- drops that leave a node open
  stays_stood_for (moves.Told place disk carried writer key status part node) c w k =
      let own = less_own writer key status part carried node c.2 (is_away scene s place disk carried writer key status part node i c.0 c.1 c.2 c.4) in
      let less = told_own writer key status part carried node c.2 (is_away scene s place disk carried writer key status part node i c.0 c.1 c.2 c.4) in
      omega (
        arith,
        all w k,
        delta scene (w_of w k) s (moves.Told place disk carried writer key status part node) c,
        became own_of s.objects.book writer key node (Some (lowered (told node status part))) w k (brought carried) c.4 less,
      )
  -- drops that close a node
  stays_stood_for (moves.Closes place disk carried writer key status part node) c w k =
      let m : Move = moves.Closes place disk carried writer key status part node in
      let other = upd was_master place (is_master node.role) in
      let new = masters other w k in
      let here : task_weight new place (s.task place) ≡ carried_weight new place carried = ap (task_weight new place) c.1 in
      let old : task_weight (w_of w k) place (s.task place) ≡ carried_weight (w_of w k) place carried = ap (task_weight (w_of w k) place) c.1 in
      let is : (if other place then under w k writer (parent_of node.role) else 0) ≡ (if is_master node.role then under w k writer (parent_of node.role) else 0) =
      ap (λ b. if b then under w k writer (parent_of node.role) else 0) (upd-same was_master place (is_master node.role)) in
      let off = total_but new (w_of w k) (same_but other was_master w k) scene s place c.0
      (λ j ne of closed. ap (λ b. if b then under w k of closed.parent else 0) (upd-other was_master place (is_master node.role) j ne)) in
      omega (
        arith,
        all w k,
        delta scene new s m c,
        here,
        old,
        is,
        off,
        became own_of s.objects.book writer key node None w k (own_of (Some node)) c.4 (omega arith),
      )
  -- gives, ends of writes, resizes and rounds
  stays_stood_for (moves.Gives place disk writer number closed held) c w k = same (moves.Gives place disk writer number closed held) c w k refl (omega arith)
  stays_stood_for (moves.Ends place disk writer closed) c w k = same (moves.Ends place disk writer closed) c w k refl (omega arith)
  stays_stood_for (moves.Resized place pool min later duties) c w k = same (moves.Resized place pool min later duties) c w k refl (omega arith)
  stays_stood_for (moves.Started place round later duties) c w k = same (moves.Started place round later duties) c w k refl (omega arith)

pub record MastersStand (scene : Scene) (was_master : ℕ → Bool) (s : State) : Type 0 where
  pub right : ArePlaced scene s was_master
  pub all : AreStoodFor scene s was_master

pub stays_standing : (scene : Scene) (s : State) (was_master : ℕ → Bool) → Invariant scene s → MastersStand scene was_master s → (m : Move) → Can scene s m
    → MastersStand scene (was_after was_master m) (after scene s m)
stays_standing scene s was_master i t m c = record {
  right = stays_right scene s i was_master t.right.0 t.right.1 m c;
  all = stays_stood_for scene s i was_master t.all m c;
}

-- an event closes a master exactly where its move does
pub closed_so : (scene : Scene) (s : State) (was_master : ℕ → Bool) (m : Move) → Can scene s m → masters_after s (place_of m) (touch_by m) was_master ≡ was_after was_master m
-- drops that close a node: the node that closes is the one at its place
closed_so scene s was_master (moves.Closes place disk carried writer key status part node) c = ap (λ found. upd was_master place (is_master_at found)) c.4
-- all others: no node closes
closed_so scene s was_master _ c = refl

pub runs_stand : (scene : Scene) → LedgersAreNumbered scene → DeviceGeometry scene.setup → (s : State) (events : List Event) (new : State) (was_master : ℕ → Bool) → IsReachedWhole scene s → MastersStand scene was_master s
    → (run : IsRun scene s events new) → MastersStand scene (were_masters scene s events new run was_master) new
runs_stand scene f g s [] new was_master i t run = subst (MastersStand scene was_master) (sym run) t
runs_stand scene f g s (event ∷ events) new was_master i t (next, (place, steps), run) =
    let moved = step_is_move scene s f i.kept place event next steps in
    let now : masters_after s place (touch_of event.what) was_master ≡ was_after was_master moved.move =
    ap (λ touch. masters_after s place touch was_master) moved.touches ∙ ap (λ at. masters_after s at (touch_by moved.move) was_master) (sym moved.at)
    ∙ closed_so scene s was_master moved.move moved.can in
    runs_stand scene f g next events new (masters_after s place (touch_of event.what) was_master) (step_whole scene f g s place event next i steps)
    (subst (λ was. MastersStand scene was next) (sym now) (subst (MastersStand scene (was_after was_master moved.move)) (sym moved.is) (stays_standing scene s was_master i.kept t moved.move moved.can))) run
