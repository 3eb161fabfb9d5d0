-- Each open node waits for as many ends as there are references to it.
use Rattle.std.proofs.Common.{◌≡◌, ◌+◌, ◌-◌, ◌*◌, ◌<◌, ◌==◌, ℕ, Bool, true, false, List, [], ◌∷◌, Option, None, Some, refl, ap, subst, arith}
use Rattle.std.specs.Prelude.{sum_by}
use Rattle.std.proofs.lemmas.Bool.{eqb-true}
use Rattle.std.proofs.lemmas.List.Sums.{sum_by-cons, sum_by_push}
use Rattle.stack_base.specs.declared.ids.Status.{Status}
use Rattle.stack_base.specs.Tree.{Tree, Leaf, Split, Mirrored}
use Rattle.bio_records.specs.declared.bio.Bio.{Bio}
use Rattle.bio_records.specs.declared.bio.Pad.{Pad}
use Rattle.bio_records.specs.declared.tasks.TaskLists.{TaskLists}
use Rattle.bio_records.specs.Items.{Item}
use Rattle.bio_lists.specs.Submission.{submitted}
use Rattle.bio_books.specs.Books.{BookState, VectorItem, node_at, top_node, child_node, master_node, leg_node, with_kept_part, raised, lowered, told}
use Rattle.run_machine.specs.Scene.{Setup, Scene, tree_at}
use Rattle.run_machine.specs.Submissions.{Want, Links, Copies, rests, settled, first_length, legs_of, leg_at}
use Rattle.run_machine.specs.Tasks.{TaskState, Writer, Rescuer, Completer, Keeper, Todo, Carried, Empty, Brings, Carries, Fails}
use Rattle.run_machine.specs.Runs.{State}
use Rattle.block_core.specs.Weights.{total_weight, one_if_same, task_weight, submission_weight, carried_weight, names_node, under}
use Rattle.block_core.proofs.moves.References.{references, awaited_ends}
use Rattle.block_core.proofs.moves.Moves.{Move, Can, after, lost, gained, limit_of, HasSubmission, gathered_of, filled_of, vector_of, cut_lists, TellsNode}
use Rattle.block_core.proofs.moves.Moves as moves
use Rattle.block_core.proofs.moves.SubmissionWeights.{IsBlind, goes_weight, first_weight, landed_same}
use Rattle.block_core.proofs.moves.Deltas.{delta}
use Rattle.block_core.proofs.sound.Invariant.{SubmissionFits, TaskIsSound, LedgersAreNumbered, Invariant}
use Rattle.block_core.proofs.sound.SumParts.{cut_weight, copies_weight, unless}
use Rattle.block_core.proofs.moves.BookMaps.{made, became, chained}

-- where a bio comes to does not matter to the node that it names
pub blind_refs : (setup : Setup) (w k : ℕ) → IsBlind (references setup w k)
blind_refs setup w k limit item t = landed_same (λ (bio : Bio). one_if_same bio.writer w * one_if_same bio.node k) (λ to members bio. refl) t item.bio

pub begun_names : (g : Item Pad → ℕ) → (w k : ℕ) → g ≡ names_node w k → (writer : ℕ) (todo : Todo) (item : Item Pad) (vector : Option VectorItem) (key : ℕ)
    → sum_by g (filled_of writer todo item vector key ∷ []) ≡ one_if_same writer w * one_if_same key k
begun_names g w k is writer todo item None key = let q = ap (λ h. sum_by h (filled_of writer todo item None key ∷ [])) is in omega (arith, q, sum_by-cons (names_node w k) (filled_of writer todo item None key) [])
begun_names g w k is writer todo item (Some vector) key = let q = ap (λ h. sum_by h (filled_of writer todo item (Some vector) key ∷ [])) is in omega (arith, q, sum_by-cons (names_node w k) (filled_of writer todo item (Some vector) key) [])

begun_refs : (setup : Setup) (w k writer : ℕ) (todo : Todo) (later : List Todo) (item : Item Pad) (vector : Option VectorItem) (key : ℕ)
    → submission_weight (references setup w k) 32 (settled setup (filled_of writer todo item vector key ∷ []))
    ≡ task_weight (references setup w k) 0 (Writer writer (todo ∷ later) (gathered_of item vector) rests) + one_if_same writer w * one_if_same key k
begun_refs setup w k writer todo later item None key =
    omega (arith, first_weight (references setup w k) (blind_refs setup w k) 32 setup (filled_of writer todo item None key ∷ []), begun_names (names_node w k) w k refl writer todo item None key)
begun_refs setup w k writer todo later item (Some vector) key =
    omega (arith, first_weight (references setup w k) (blind_refs setup w k) 32 setup (filled_of writer todo item (Some vector) key ∷ []), begun_names (names_node w k) w k refl writer todo item (Some vector) key)

-- what tells a node of an end is a reference to it
pub tells_refs : (setup : Setup) (w k writer key : ℕ) (status : Status) (part : Option (Item Pad)) (carried : Carried) → TellsNode carried writer key status part
    → carried_weight (references setup w k) 0 carried ≡ one_if_same writer w * one_if_same key k
tells_refs setup w k writer key status part (Brings bio ending) t = rw (t.0, t.1) refl
tells_refs setup w k writer key status part (Carries of closed) t = rw (t.1, t.0) refl
tells_refs setup w k writer key status part Empty t = absurd t
tells_refs setup w k writer key status part (Fails breach kept) t = absurd t

-- behind the last leg none is left
left_behind : (x leg legs : ℕ) → unless (leg == legs) (x * (legs - leg)) ≡ x * (legs - leg)
left_behind x leg legs = by_test (leg == legs) refl
  where
    by_test : (v : Bool) → (leg == legs) ≡ v → unless v (x * (legs - leg)) ≡ x * (legs - leg)
    by_test true is = let same : leg ≡ legs = eqb-true leg legs is in let none : legs - leg ≡ 0 = omega (arith, same) in omega (arith, ap (λ n. x * n) none)
    by_test false is = refl

spread : (x y z n : ℕ) → x * (y * n + z * 0) ≡ x * y * (n - 0)
spread x y z n = grind arith

-- a leg's bio has the node that was made for it
pub leg_named : (w k : ℕ) (bio : Bio) (hand : Item Pad) (leg key : ℕ) (t : Tree) → leg < legs_of t → names_node w k (leg_at bio hand leg key t) ≡ one_if_same bio.writer w * one_if_same key k
leg_named w k bio hand leg key (Leaf number sectors) lt = absurd (omega (arith, lt))
leg_named w k bio hand leg key (Split number kind sizes members) lt = absurd (omega (arith, lt))
leg_named w k bio hand leg key (Mirrored number sizes members) lt = refl

-- a task that makes a leg has one to make
pub makes_leg : (scene : Scene) (s : State) (place : ℕ) (x : TaskState) (bio : Bio) (master leg : ℕ) (want : Want) (lists : TaskLists) → Invariant scene s → s.task place ≡ x
    → HasSubmission x (Copies bio master leg want) lists → leg < legs_of (tree_at scene.setup bio.dev)
makes_leg scene s place x bio master leg want lists i is h = by_task x h (subst (TaskIsSound scene) is (i.tasks place))
  where
    by_task : (x : TaskState) → HasSubmission x (Copies bio master leg want) lists → TaskIsSound scene x → leg < legs_of (tree_at scene.setup bio.dev)
    by_task (Writer number todo taken submission) h fits = subst (SubmissionFits scene.setup) h fits.1
    by_task (Rescuer dev submission) h fits = subst (SubmissionFits scene.setup) h fits.1
    by_task (Completer disk carried) h fits = absurd h
    by_task (Keeper keeping) h fits = absurd h

module _ (scene : Scene) (s : State) (f : LedgersAreNumbered scene) (i : Invariant scene s) where
  -- events that neither open nor close nodes, nor move bios into or out of them
  same : (m : Move) → Can scene s m → (w k : ℕ) → (after scene s m).objects.book ≡ s.objects.book
      → lost scene (references scene.setup w k) s m ≡ gained scene (references scene.setup w k) s m
      → awaited_ends (node_at ((after scene s m).objects.book w) k) ≡ total_weight scene (references scene.setup w k) (after scene s m)
  same m c w k books even =
      let b : awaited_ends (node_at ((after scene s m).objects.book w) k) ≡ awaited_ends (node_at (s.objects.book w) k) = ap (λ (book : ℕ → BookState). awaited_ends (node_at (book w) k)) books in
      omega (arith, b, i.counts w k, delta scene (references scene.setup w k) s m c, even)

  pub counts : (m : Move) → Can scene s m → (w k : ℕ) → awaited_ends (node_at ((after scene s m).objects.book w) k) ≡ total_weight scene (references scene.setup w k) (after scene s m)
  -- takes, misses, punts, pops, pushes and completions
  counts (moves.TakesFirst place writer todo later move) c w k = same (moves.TakesFirst place writer todo later move) c w k refl refl
  counts (moves.TakesVector place writer todo later item move) c w k = same (moves.TakesVector place writer todo later item move) c w k refl refl
  counts (moves.TakesSub place x doing lists dev waits move) c w k = same (moves.TakesSub place x doing lists dev waits move) c w k refl refl
  counts (moves.TakesSlip place x bio lists move) c w k = same (moves.TakesSlip place x bio lists move) c w k refl refl
  counts (moves.MissesOne place x number used) c w k = same (moves.MissesOne place x number used) c w k refl refl
  counts (moves.MissesTry place x doing lists dev used) c w k = same (moves.MissesTry place x doing lists dev used) c w k refl refl
  counts (moves.Punts place x doing lists dev) c w k = same (moves.Punts place x doing lists dev) c w k refl refl
  counts (moves.Pops place dev bio bios) c w k =
      same (moves.Pops place dev bio bios) c w k refl
      (omega (arith, first_weight (references scene.setup w k) (blind_refs scene.setup w k) dev.0 scene.setup (bio ∷ []), sum_by-cons (names_node w k) bio []))
  counts (moves.Pushes place x bio lists) c w k =
      same (moves.Pushes place x bio lists) c w k refl (omega (arith, goes_weight (references scene.setup w k) (blind_refs scene.setup w k) (limit_of x) scene.setup bio.bio.dev lists))
  counts (moves.Completed place disk index bio status new) c w k = same (moves.Completed place disk index bio status new) c w k refl refl
  -- links of writes
  counts (moves.Begins place writer todo later item vector key) c w k =
      omega (
        arith,
        i.counts w k,
        delta scene (references scene.setup w k) s (moves.Begins place writer todo later item vector key) c,
        begun_refs scene.setup w k writer todo later item vector key,
        made awaited_ends refl s.objects.book writer key (top_node todo.number (vector_of todo vector)) w k 1 c.3 refl,
      )
  -- links of pieces
  counts (moves.Chained place x bio lists hand number kind sizes members key node) c w k =
      let n = first_length kind sizes bio.bio.range in
      omega (
        arith,
        i.counts w k,
        delta scene (references scene.setup w k) s (moves.Chained place x bio lists hand number kind sizes members key node) c,
        goes_weight (references scene.setup w k) (blind_refs scene.setup w k) (limit_of x) scene.setup bio.bio.dev (cut_lists bio lists hand n key kind sizes members),
        cut_weight (names_node w k) bio lists hand n key kind sizes members,
        chained awaited_ends refl s.objects.book bio.bio.writer key bio.bio.node node (child_node node.write bio.bio.node) (raised node) w k 1 1 0 c.6 c.5 refl (omega arith),
      )
  -- links of masters
  counts (moves.Mastered place x bio lists slip key node) c w k =
      let legs = legs_of (tree_at scene.setup bio.bio.dev) in
      omega (
        arith,
        i.counts w k,
        delta scene (references scene.setup w k) s (moves.Mastered place x bio lists slip key node) c,
        copies_weight (references scene.setup w k) (blind_refs scene.setup w k) (limit_of x) scene.setup lists bio.bio key 0,
        left_behind (one_if_same bio.bio.writer w * one_if_same key k) 0 legs,
        spread (one_if_same bio.bio.writer w) (one_if_same key k) (one_if_same bio.bio.node k) legs,
        chained awaited_ends refl s.objects.book bio.bio.writer key bio.bio.node node (master_node node.write bio.bio.node slip legs) (with_kept_part bio node) w k legs 0 0 c.5 c.4 refl refl,
      )
  -- links of legs
  counts (moves.Legged place x bio lists master leg hand key node) c w k =
      let legs = legs_of (tree_at scene.setup bio.dev) in
      let item = leg_at bio hand leg key (tree_at scene.setup bio.dev) in
      let lt : leg < legs = makes_leg scene s place x bio master leg (Links hand) lists i c.1 c.2 in
      let one_less : legs - leg ≡ (legs - (leg + 1)) + 1 = omega (arith, lt) in
      omega (
        arith,
        i.counts w k,
        delta scene (references scene.setup w k) s (moves.Legged place x bio lists master leg hand key node) c,
        copies_weight (references scene.setup w k) (blind_refs scene.setup w k) (limit_of x) scene.setup (submitted item lists) bio master (leg + 1),
        left_behind (one_if_same bio.writer w * one_if_same master k) (leg + 1) legs,
        ap (λ n. one_if_same bio.writer w * one_if_same master k * n) one_less,
        sum_by_push (names_node w k) lists.list0 item,
        leg_named w k bio hand leg key (tree_at scene.setup bio.dev) lt,
        made awaited_ends refl s.objects.book bio.writer key (leg_node node.write master) w k 1 c.5 refl,
      )
  -- drops that leave a node open
  counts (moves.Told place disk carried writer key status part node) c w k =
      let lower : node.count - 1 + 1 ≡ node.count = let lt = c.5 in omega arith in
      omega (
        arith,
        i.counts w k,
        delta scene (references scene.setup w k) s (moves.Told place disk carried writer key status part node) c,
        tells_refs scene.setup w k writer key status part carried c.2,
        became awaited_ends s.objects.book writer key node (Some (lowered (told node status part))) w k 1 c.4 lower,
      )
  -- drops that close a node
  counts (moves.Closes place disk carried writer key status part node) c w k =
      let last : 0 + 1 ≡ node.count = let q = c.5 in omega arith in
      omega (
        arith,
        i.counts w k,
        delta scene (references scene.setup w k) s (moves.Closes place disk carried writer key status part node) c,
        tells_refs scene.setup w k writer key status part carried c.2,
        became awaited_ends s.objects.book writer key node None w k 1 c.4 last,
      )
  -- gives, ends of writes, resizes and rounds
  counts (moves.Gives place disk writer number closed held) c w k = same (moves.Gives place disk writer number closed held) c w k refl refl
  counts (moves.Ends place disk writer closed) c w k = same (moves.Ends place disk writer closed) c w k refl (ap (under w k writer) c.3)
  counts (moves.Resized place pool min later duties) c w k = same (moves.Resized place pool min later duties) c w k refl refl
  counts (moves.Started place round later duties) c w k = same (moves.Started place round later duties) c w k refl refl
