-- Events keep what refers to nodes where it belongs: bios, children and masters at nodes that are no masters, and legs at masters.
use Rattle.std.proofs.Common.{◌≡◌, ◌+◌, ◌<◌, ◌≤◌, ◌==◌, not, ℕ, Bool, true, false, [], ◌∷◌, Option, None, Some, inr, refl, ◌∙◌, ap, subst, arith}
use Rattle.std.proofs.lemmas.List.Sums.{sum_by-cons, sum_by_push}
use Rattle.stack_base.specs.Tree.{Tree, Leaf, Split, Mirrored}
use Rattle.bio_records.specs.declared.bio.Bio.{Bio}
use Rattle.bio_records.specs.declared.bio.Pad.{Pad}
use Rattle.bio_records.specs.Items.{Item}
use Rattle.bio_lists.specs.Submission.{submitted}
use Rattle.bio_books.specs.declared.node.Role.{Role}
use Rattle.bio_books.specs.declared.node.Role.TheVariants as role
use Rattle.bio_books.specs.Books.{VectorItem, parent_of}
use Rattle.bio_books.specs.Links.{IsVacant}
use Rattle.run_machine.specs.Maps.{upd}
use Rattle.run_machine.specs.Scene.{Scene, tree_at}
use Rattle.run_machine.specs.Submissions.{Links, ToCut, ToMaster, Drives, Copies, first_length, legs_of, leg_at}
use Rattle.run_machine.specs.Tasks.{Todo}
use Rattle.run_machine.specs.Runs.{State}
use Rattle.block_core.specs.Weights.{Weight, total_weight, task_weight, carried_weight, under, no_weight}
use Rattle.block_core.specs.Touches.{is_master}
use Rattle.block_core.proofs.status.Marks.{mismatch}
use Rattle.block_core.proofs.moves.Moves.{Move, Can, after, lost, gained, limit_of, filled_of, cut_lists}
use Rattle.block_core.proofs.moves.Moves as moves
use Rattle.block_core.proofs.moves.Sums.{upd-same, upd-other, yes}
use Rattle.block_core.proofs.sound.Invariant.{TaskIsSound, Invariant}
use Rattle.block_core.proofs.sound.TaskSubmissions.{submission_fits}
use Rattle.block_core.proofs.moves.Deltas.{other_place, delta}
use Rattle.block_core.proofs.sound.SumParts.{copies_weight, unless, unless_none, cut_weight, submission_part}
use Rattle.block_core.proofs.moves.SubmissionWeights.{IsBlind, landed_same, first_weight, goes_weight}
use Rattle.block_core.proofs.moves.VacantMarks.{with_mark, mark_here, mark_other, mark_still, IsUnmoved, none_moves}
use Rattle.block_core.proofs.sound.Splitting.{IsSameButClosed, total_but}

-- 1 for a node under one of another kind than its role says, where `mark` tells the places of masters
abbrev pub wrong_parent : (ℕ → Bool) → Role → ℕ
wrong_parent mark role.Top = 0
wrong_parent mark (role.Chain parent) = yes (mark parent)
wrong_parent mark (role.Master parent) = yes (mark parent)
wrong_parent mark (role.Leg parent) = yes (not (mark parent))

-- and for what is left of a master under one
abbrev pub wrong_above : (ℕ → Bool) → Bool → Option ℕ → ℕ
wrong_above mark false parent = 0
wrong_above mark true None = 0
wrong_above mark true (Some parent) = yes (mark parent)

abbrev pub misplaced : (ℕ → ℕ → Bool) → (ℕ → Bool) → Weight
misplaced mark was_master = record no_weight {
  bio = λ spot item. yes (mark item.bio.writer item.bio.node);
  copy = λ bio master leg. yes (not (mark bio.writer master));
  node = λ writer place node. mismatch node.role (mark writer place) + wrong_parent (mark writer) node.role;
  closed = λ task writer closed. wrong_above (mark writer) (was_master task) closed.parent;
}

abbrev pub ArePlaced : Scene → State → (ℕ → Bool) → Type 0
ArePlaced scene s was_master = (mark : ℕ → ℕ → Bool) × (total_weight scene (misplaced mark was_master) s ≡ 0)

blind : (mark : ℕ → ℕ → Bool) (was_master : ℕ → Bool) → IsBlind (misplaced mark was_master)
blind mark was_master limit item t = landed_same (λ (bio : Bio). yes (mark bio.writer bio.node)) (λ to members bio. refl) t item.bio

module _ (mark : ℕ → ℕ → Bool) (was_master : ℕ → Bool) (writer key : ℕ) (v : Bool) where
  abbrev new : ℕ → ℕ → Bool
  new = with_mark mark writer key v

  parent_same : (w : ℕ) (r : Role) → under writer key w (parent_of r) ≡ 0 → wrong_parent (new w) r ≡ wrong_parent (mark w) r
  parent_same w role.Top none = refl
  parent_same w (role.Chain parent) none = ap yes (mark_still mark writer key v w parent none)
  parent_same w (role.Master parent) none = ap yes (mark_still mark writer key v w parent none)
  parent_same w (role.Leg parent) none = ap (λ b. yes (not b)) (mark_still mark writer key v w parent none)

  above_same : (w : ℕ) (b : Bool) (parent : Option ℕ) → under writer key w parent ≡ 0 → wrong_above (new w) b parent ≡ wrong_above (mark w) b parent
  above_same w false parent none = refl
  above_same w true None none = refl
  above_same w true (Some parent) none = ap yes (mark_still mark writer key v w parent none)

  unmoved : IsUnmoved (misplaced new was_master) (misplaced mark was_master) writer key
  unmoved = record {
    todo = λ w todos taken. omega arith;
    bio = λ spot item none. omega (arith, ap yes (mark_still mark writer key v item.bio.writer item.bio.node none));
    copy = λ bio master leg none. omega (arith, ap (λ b. yes (not b)) (mark_still mark writer key v bio.writer master none));
    hand = λ item. omega arith;
    vector = λ vector. omega arith;
    slip = λ slip. omega arith;
    node = λ w k node other none. omega (arith, ap (mismatch node.role) (mark_other mark writer key v w k other), parent_same w node.role none);
    closed = λ task w closed none. omega (arith, above_same w (was_master task) closed.parent none);
  }

  -- a vacant place may have any mark
  vacant_placed : (scene : Scene) (s : State) → Invariant scene s → IsVacant (s.objects.book writer) key → total_weight scene (misplaced mark was_master) s ≡ 0
      → total_weight scene (misplaced new was_master) s ≡ 0
  vacant_placed scene s i vacant off = omega (arith, off, none_moves scene s i writer key vacant (misplaced new was_master) (misplaced mark was_master) unmoved)

-- the kinds of closed nodes that tasks carry, behind an event
abbrev pub was_after : (ℕ → Bool) → Move → ℕ → Bool
was_after was_master (moves.Closes place disk carried writer key status part node) = upd was_master place (is_master node.role)
was_after was_master m = was_master

pub same_but : (mark : ℕ → ℕ → Bool) (was_master other : ℕ → Bool) → IsSameButClosed (misplaced mark was_master) (misplaced mark other)
same_but mark was_master other = record { todo = refl; bio = refl; copy = refl; hand = refl; vector = refl; slip = refl; node = refl }

begun_right : (mark : ℕ → ℕ → Bool) (writer : ℕ) (todo : Todo) (item : Item Pad) (vector : Option VectorItem) (key : ℕ) → mark writer key ≡ false
    → yes (mark (filled_of writer todo item vector key).bio.writer (filled_of writer todo item vector key).bio.node) ≡ 0
begun_right mark writer todo item None key is = ap yes is
begun_right mark writer todo item (Some vector) key is = ap yes is

leg_right : (mark : ℕ → ℕ → Bool) (bio : Bio) (hand : Item Pad) (leg key : ℕ) (t : Tree) → leg < legs_of t → mark bio.writer key ≡ false
    → yes (mark (leg_at bio hand leg key t).bio.writer (leg_at bio hand leg key t).bio.node) ≡ 0
leg_right mark bio hand leg key (Leaf number sectors) lt is = absurd (omega (arith, lt))
leg_right mark bio hand leg key (Split number kind sizes members) lt is = absurd (omega (arith, lt))
leg_right mark bio hand leg key (Mirrored number sizes members) lt is = ap yes is

-- what is left of a closed node is under the same node
above_parent : (mark : ℕ → Bool) (r : Role) → wrong_above mark (is_master r) (parent_of r) ≤ wrong_parent mark r
above_parent mark role.Top = omega arith
above_parent mark (role.Chain parent) = omega arith
above_parent mark (role.Master parent) = omega arith
above_parent mark (role.Leg parent) = omega arith

module _ (scene : Scene) (s : State) (i : Invariant scene s) (was_master : ℕ → Bool) (mark : ℕ → ℕ → Bool) (none : total_weight scene (misplaced mark was_master) s ≡ 0) where
  abbrev w : (ℕ → ℕ → Bool) → Weight
  w m = misplaced m was_master

  same : (m : Move) → Can scene s m → gained scene (w mark) s m ≤ lost scene (w mark) s m → ArePlaced scene (after scene s m) was_master
  same m c le = (mark, omega (arith, none, delta scene (w mark) s m c, le))

  one_more : (m : Move) → Can scene s m → (writer key : ℕ) (v : Bool) → IsVacant (s.objects.book writer) key
      → gained scene (w (with_mark mark writer key v)) s m ≤ lost scene (w (with_mark mark writer key v)) s m → ArePlaced scene (after scene s m) was_master
  one_more m c writer key v vacant le =
      (with_mark mark writer key v, omega (arith, vacant_placed mark was_master writer key v scene s i vacant none, delta scene (w (with_mark mark writer key v)) s m c, le))

  pub stays_right : (m : Move) → Can scene s m → ArePlaced scene (after scene s m) (was_after was_master m)
  -- takes, misses, punts, pops, pushes and completions
  stays_right (moves.TakesFirst place writer todo later move) c = same (moves.TakesFirst place writer todo later move) c (omega arith)
  stays_right (moves.TakesVector place writer todo later item move) c = same (moves.TakesVector place writer todo later item move) c (omega arith)
  stays_right (moves.TakesSub place x doing lists dev waits move) c = same (moves.TakesSub place x doing lists dev waits move) c (omega arith)
  stays_right (moves.TakesSlip place x bio lists move) c = same (moves.TakesSlip place x bio lists move) c (omega arith)
  stays_right (moves.MissesOne place x number used) c = same (moves.MissesOne place x number used) c (omega arith)
  stays_right (moves.MissesTry place x doing lists dev used) c = same (moves.MissesTry place x doing lists dev used) c (omega arith)
  stays_right (moves.Punts place x doing lists dev) c = same (moves.Punts place x doing lists dev) c (omega arith)
  stays_right (moves.Pops place dev bio bios) c =
      same (moves.Pops place dev bio bios) c
      (omega (arith, first_weight (w mark) (blind mark was_master) dev.0 scene.setup (bio ∷ []), sum_by-cons (λ (item : Item Pad). yes (mark item.bio.writer item.bio.node)) bio []))
  stays_right (moves.Pushes place x bio lists) c =
      same (moves.Pushes place x bio lists) c (omega (arith, goes_weight (w mark) (blind mark was_master) (limit_of x) scene.setup bio.bio.dev lists))
  stays_right (moves.Completed place disk index bio status new) c = same (moves.Completed place disk index bio status new) c (omega arith)
  -- links of writes
  stays_right (moves.Begins place writer todo later item vector key) c =
      let new = with_mark mark writer key false in
      let here = mark_here mark writer key false in
      one_more (moves.Begins place writer todo later item vector key) c writer key false c.3
      (omega (
        arith,
        ap yes here,
        first_weight (w new) (blind new was_master) 32 scene.setup (filled_of writer todo item vector key ∷ []),
        sum_by-cons (λ (item : Item Pad). yes (new item.bio.writer item.bio.node)) (filled_of writer todo item vector key) [],
        begun_right new writer todo item vector key here,
      ))
  -- links of pieces
  stays_right (moves.Chained place x bio lists hand number kind sizes members key node) c =
      let n = first_length kind sizes bio.bio.range in
      let new = with_mark mark bio.bio.writer key false in
      let here = mark_here mark bio.bio.writer key false in
      let part = submission_part scene (w mark) s place x (Drives bio (ToCut (Links hand))) lists c.0 c.1 c.2 in
      let parent : new bio.bio.writer bio.bio.node ≡ mark bio.bio.writer bio.bio.node =
      mark_other mark bio.bio.writer key false bio.bio.writer bio.bio.node (inr (other_place (s.objects.book bio.bio.writer) key bio.bio.node node c.6 c.5)) in
      let free : yes (mark bio.bio.writer bio.bio.node) ≡ 0 = omega (arith, part, none) in
      one_more (moves.Chained place x bio lists hand number kind sizes members key node) c bio.bio.writer key false c.6
      (omega (
        arith,
        ap yes here,
        ap yes parent,
        free,
        goes_weight (w new) (blind new was_master) (limit_of x) scene.setup bio.bio.dev (cut_lists bio lists hand n key kind sizes members),
        cut_weight (λ (item : Item Pad). yes (new item.bio.writer item.bio.node)) bio lists hand n key kind sizes members,
      ))
  -- links of masters
  stays_right (moves.Mastered place x bio lists slip key node) c =
      let new = with_mark mark bio.bio.writer key true in
      let here = mark_here mark bio.bio.writer key true in
      let legs = legs_of (tree_at scene.setup bio.bio.dev) in
      let part = submission_part scene (w mark) s place x (Drives bio (ToMaster slip)) lists c.0 c.1 c.2 in
      let parent : new bio.bio.writer bio.bio.node ≡ mark bio.bio.writer bio.bio.node =
      mark_other mark bio.bio.writer key true bio.bio.writer bio.bio.node (inr (other_place (s.objects.book bio.bio.writer) key bio.bio.node node c.5 c.4)) in
      let free : yes (mark bio.bio.writer bio.bio.node) ≡ 0 = omega (arith, part, none) in
      let copy : yes (not (new bio.bio.writer key)) ≡ 0 = ap (λ b. yes (not b)) here in
      one_more (moves.Mastered place x bio lists slip key node) c bio.bio.writer key true c.5
      (omega (
        arith,
        copy,
        ap yes parent,
        free,
        copies_weight (w new) (blind new was_master) (limit_of x) scene.setup lists bio.bio key 0,
        ap (unless (0 == legs)) copy,
        unless_none (0 == legs),
      ))
  -- links of legs
  stays_right (moves.Legged place x bio lists master leg hand key node) c =
      let new = with_mark mark bio.writer key false in
      let here = mark_here mark bio.writer key false in
      let legs = legs_of (tree_at scene.setup bio.dev) in
      let item = leg_at bio hand leg key (tree_at scene.setup bio.dev) in
      let lt = submission_fits scene x (Copies bio master leg (Links hand)) lists (subst (TaskIsSound scene) c.1 (i.tasks place)) c.2 in
      let part = submission_part scene (w mark) s place x (Copies bio master leg (Links hand)) lists c.0 c.1 c.2 in
      let parent : new bio.writer master ≡ mark bio.writer master =
      mark_other mark bio.writer key false bio.writer master (inr (other_place (s.objects.book bio.writer) key master node c.5 c.4)) in
      let free : yes (not (mark bio.writer master)) ≡ 0 = omega (arith, part, none) in
      let copy : yes (not (new bio.writer master)) ≡ 0 = ap (λ b. yes (not b)) parent ∙ free in
      one_more (moves.Legged place x bio lists master leg hand key node) c bio.writer key false c.5
      (omega (
        arith,
        ap yes here,
        copy,
        copies_weight (w new) (blind new was_master) (limit_of x) scene.setup (submitted item lists) bio master (leg + 1),
        ap (unless (leg + 1 == legs)) copy,
        unless_none (leg + 1 == legs),
        sum_by_push (λ (item : Item Pad). yes (new item.bio.writer item.bio.node)) lists.list0 item,
        leg_right new bio hand leg key (tree_at scene.setup bio.dev) lt here,
      ))
  -- drops that leave a node open
  stays_right (moves.Told place disk carried writer key status part node) c = same (moves.Told place disk carried writer key status part node) c (omega arith)
  -- drops that close a node
  stays_right (moves.Closes place disk carried writer key status part node) c =
      let other = upd was_master place (is_master node.role) in
      let m : Move = moves.Closes place disk carried writer key status part node in
      let own : task_weight (misplaced mark other) place (s.task place) ≡ carried_weight (misplaced mark other) place carried = ap (task_weight (misplaced mark other) place) c.1 in
      let old : task_weight (w mark) place (s.task place) ≡ carried_weight (w mark) place carried = ap (task_weight (w mark) place) c.1 in
      let is : wrong_above (mark writer) (other place) (parent_of node.role) ≡ wrong_above (mark writer) (is_master node.role) (parent_of node.role) =
      ap (λ b. wrong_above (mark writer) b (parent_of node.role)) (upd-same was_master place (is_master node.role)) in
      let off = total_but (misplaced mark other) (w mark) (same_but mark other was_master) scene s place c.0
      (λ j ne of closed. ap (λ b. wrong_above (mark of) b closed.parent) (upd-other was_master place (is_master node.role) j ne)) in
      (mark, omega (arith, none, delta scene (misplaced mark other) s m c, own, old, is, off, above_parent (mark writer) node.role))
  -- gives, ends of writes, resizes and rounds
  stays_right (moves.Gives place disk writer number closed held) c = same (moves.Gives place disk writer number closed held) c (omega arith)
  stays_right (moves.Ends place disk writer closed) c = same (moves.Ends place disk writer closed) c (omega arith)
  stays_right (moves.Resized place pool min later duties) c = same (moves.Resized place pool min later duties) c (omega arith)
  stays_right (moves.Started place round later duties) c = same (moves.Started place round later duties) c (omega arith)
