-- Bios of which a fact does not hold: where there is none, no event makes one.
use Rattle.std.proofs.Common.{◌≡◌, ◌+◌, ◌<◌, ◌≤◌, ◌==◌, ℕ, List, [], ◌∷◌, None, Some, subst, arith}
use Rattle.std.specs.Prelude.{sum_by}
use Rattle.std.proofs.lemmas.List.Sums.{sum_by-cons, sum_by_push}
use Rattle.stack_base.specs.declared.ids.SetId.TheVariants.{Of}
use Rattle.stack_base.specs.Mapping.{Slot, slot}
use Rattle.stack_base.specs.Tree.{Tree, Leaf, Split, Mirrored}
use Rattle.bio_records.specs.declared.bio.Bio.{Bio}
use Rattle.bio_records.specs.declared.bio.Pad.{Pad}
use Rattle.bio_records.specs.declared.tasks.TaskLists.{TaskLists}
use Rattle.bio_records.specs.Items.{Item}
use Rattle.bio_lists.specs.Submission.{submitted}
use Rattle.bio_split.specs.Split.{split_front, split_rest}
use Rattle.run_machine.specs.Scene.{Scene, tree_at}
use Rattle.run_machine.specs.Submissions.{Links, ToCut, Drives, Copies, first_length, mapped, legs_of, leg_at}
use Rattle.run_machine.specs.Tasks.{TaskState, Todo, first_bio}
use Rattle.run_machine.specs.Runs.{State}
use Rattle.block_core.specs.Weights.{Weight, total_weight, no_weight}
use Rattle.block_core.proofs.moves.Moves.{Move, Can, after, limit_of, HasSubmission, filled_of, cut_lists, piece}
use Rattle.block_core.proofs.moves.Moves as moves
use Rattle.block_core.proofs.moves.SubmissionWeights.{landed_same, IsBlind, first_weight, goes_weight}
use Rattle.block_core.proofs.sound.SumParts.{cut_weight, copies_weight, submission_part, unless_less}
use Rattle.block_core.proofs.moves.Deltas.{delta}
use Rattle.block_core.proofs.sound.Invariant.{TaskIsSound, Invariant}
use Rattle.block_core.proofs.sound.TaskSubmissions.{submission_fits}

-- a number of each bio that is 0 for the parts of a bio for which it is 0, wherever they are
pub record Follows (bad : Bio → ℕ) : Type 0 where
  pub maps : (to : Slot) (members : ℕ → Tree) (bio : Bio) → bad (mapped to members bio) ≡ bad bio
  pub fronts : (whole into : Item Pad) (n node : ℕ) → n ≤ whole.bio.range.len → bad whole.bio ≡ 0 → bad (split_front whole into n (Of whole.bio.dev) node).bio ≡ 0
  pub rests : (whole : Item Pad) (n : ℕ) → n ≤ whole.bio.range.len → bad whole.bio ≡ 0 → bad (split_rest whole n).bio ≡ 0
  pub legs : (bio : Bio) (hand : Item Pad) (leg node number : ℕ) (sizes : List ℕ) (members : ℕ → Tree) → bad (leg_at bio hand leg node (Mirrored number sizes members)).bio ≡ bad bio
  pub begins : (writer : ℕ) (todo : Todo) (node : ℕ) → bad (first_bio writer todo node) ≡ bad (first_bio writer todo 0)

abbrev pub misfits : (Bio → ℕ) → Weight
misfits bad = record no_weight {
  todo = λ writer todos taken. sum_by (λ todo. bad (first_bio writer todo 0)) todos;
  bio = λ spot item. bad item.bio;
  copy = λ bio master leg. bad bio;
}

module _ (bad : Bio → ℕ) (f : Follows bad) where
  abbrev w : Weight
  w = misfits bad

  abbrev bad_item : Item Pad → ℕ
  bad_item item = bad item.bio

  blind : IsBlind w
  blind limit item t = landed_same bad f.maps t item.bio

  legs_follow : (bio : Bio) (hand : Item Pad) (leg node : ℕ) (t : Tree) → leg < legs_of t → bad (leg_at bio hand leg node t).bio ≡ bad bio
  legs_follow bio hand leg node (Mirrored number sizes members) lt = f.legs bio hand leg node number sizes members
  legs_follow bio hand leg node (Leaf number sectors) lt = absurd (omega arith)
  legs_follow bio hand leg node (Split number kind sizes members) lt = absurd (omega arith)

  module _ (scene : Scene) (s : State) (i : Invariant scene s) (none : total_weight scene w s ≡ 0) where
    stays : (m : Move) → Can scene s m → total_weight scene w (after scene s m) ≡ 0
    -- takes, misses and punts
    stays (moves.TakesFirst place writer todo later move) c = omega (arith, none, delta scene w s (moves.TakesFirst place writer todo later move) c)
    stays (moves.TakesVector place writer todo later item move) c = omega (arith, none, delta scene w s (moves.TakesVector place writer todo later item move) c)
    stays (moves.TakesSub place x doing lists dev waits move) c = omega (arith, none, delta scene w s (moves.TakesSub place x doing lists dev waits move) c)
    stays (moves.TakesSlip place x bio lists move) c = omega (arith, none, delta scene w s (moves.TakesSlip place x bio lists move) c)
    stays (moves.MissesOne place x number used) c = omega (arith, none, delta scene w s (moves.MissesOne place x number used) c)
    stays (moves.MissesTry place x doing lists dev used) c = omega (arith, none, delta scene w s (moves.MissesTry place x doing lists dev used) c)
    stays (moves.Punts place x doing lists dev) c = omega (arith, none, delta scene w s (moves.Punts place x doing lists dev) c)
    -- pops
    stays (moves.Pops place dev bio bios) c =
        omega (
          arith,
          none,
          delta scene w s (moves.Pops place dev bio bios) c,
          first_weight w blind dev.0 scene.setup (bio ∷ []),
          sum_by-cons bad_item bio [],
        )
    -- pushes and completions
    stays (moves.Pushes place x bio lists) c =
        omega (arith, none, delta scene w s (moves.Pushes place x bio lists) c, goes_weight w blind (limit_of x) scene.setup bio.bio.dev lists)
    stays (moves.Completed place disk index bio status new) c = omega (arith, none, delta scene w s (moves.Completed place disk index bio status new) c)
    -- links of writes
    stays (moves.Begins place writer todo later item None key) c =
        omega (
          arith,
          none,
          delta scene w s (moves.Begins place writer todo later item None key) c,
          first_weight w blind 32 scene.setup (filled_of writer todo item None key ∷ []),
          sum_by-cons bad_item (filled_of writer todo item None key) [],
          sum_by-cons (λ todo. bad (first_bio writer todo 0)) todo later,
          f.begins writer todo key,
        )
    stays (moves.Begins place writer todo later item (Some vector) key) c =
        omega (
          arith,
          none,
          delta scene w s (moves.Begins place writer todo later item (Some vector) key) c,
          first_weight w blind 32 scene.setup (filled_of writer todo item (Some vector) key ∷ []),
          sum_by-cons bad_item (filled_of writer todo item (Some vector) key) [],
          sum_by-cons (λ todo. bad (first_bio writer todo 0)) todo later,
          f.begins writer todo key,
        )
    -- links of pieces
    stays (moves.Chained place x bio lists hand number kind sizes members key node) c =
        let n = first_length kind sizes bio.bio.range in
        let child = piece bio hand n key kind sizes members in
        let front = split_front bio hand n (Of bio.bio.dev) key in
        let part = submission_part scene w s place x (Drives bio (ToCut (Links hand))) lists c.0 c.1 c.2 in
        let fits : bad bio.bio ≡ 0 = omega (arith, none, part) in
        let short : n ≤ bio.bio.range.len = omega arith in
        omega (
          arith,
          none,
          fits,
          delta scene w s (moves.Chained place x bio lists hand number kind sizes members key node) c,
          goes_weight w blind (limit_of x) scene.setup bio.bio.dev (cut_lists bio lists hand n key kind sizes members),
          cut_weight bad_item bio lists hand n key kind sizes members,
          f.maps (slot kind sizes bio.bio.range.start) members front.bio,
          f.fronts bio hand n key short fits,
          f.rests bio n short fits,
        )
    -- links of masters
    stays (moves.Mastered place x bio lists slip key node) c =
        omega (
          arith,
          none,
          delta scene w s (moves.Mastered place x bio lists slip key node) c,
          copies_weight w blind (limit_of x) scene.setup lists bio.bio key 0,
          unless_less (0 == legs_of (tree_at scene.setup bio.bio.dev)) (bad bio.bio),
        )
    -- links of legs
    stays (moves.Legged place x bio lists master leg hand key node) c =
        let lt = submission_fits scene x (Copies bio master leg (Links hand)) lists (subst (TaskIsSound scene) c.1 (i.tasks place)) c.2 in
        let item = leg_at bio hand leg key (tree_at scene.setup bio.dev) in
        let part = submission_part scene w s place x (Copies bio master leg (Links hand)) lists c.0 c.1 c.2 in
        let fits : bad bio ≡ 0 = omega (arith, none, part) in
        omega (
          arith,
          none,
          fits,
          delta scene w s (moves.Legged place x bio lists master leg hand key node) c,
          copies_weight w blind (limit_of x) scene.setup (submitted item lists) bio master (leg + 1),
          unless_less ((leg + 1) == legs_of (tree_at scene.setup bio.dev)) (bad bio),
          sum_by_push bad_item lists.list0 item,
          legs_follow bio hand leg key (tree_at scene.setup bio.dev) lt,
        )
    -- drops that leave a node open, drops that close a node, gives, ends of writes, resizes and rounds
    stays (moves.Told place disk carried writer key status part node) c = omega (arith, none, delta scene w s (moves.Told place disk carried writer key status part node) c)
    stays (moves.Closes place disk carried writer key status part node) c = omega (arith, none, delta scene w s (moves.Closes place disk carried writer key status part node) c)
    stays (moves.Gives place disk writer number closed held) c = omega (arith, none, delta scene w s (moves.Gives place disk writer number closed held) c)
    stays (moves.Ends place disk writer closed) c = omega (arith, none, delta scene w s (moves.Ends place disk writer closed) c)
    stays (moves.Resized place pool min later duties) c = omega (arith, none, delta scene w s (moves.Resized place pool min later duties) c)
    stays (moves.Started place round later duties) c = omega (arith, none, delta scene w s (moves.Started place round later duties) c)

pub no_misfits : (bad : Bio → ℕ) → Follows bad → (scene : Scene) (s : State) → Invariant scene s → total_weight scene (misfits bad) s ≡ 0 → (m : Move) → Can scene s m
    → total_weight scene (misfits bad) (after scene s m) ≡ 0
no_misfits bad f scene s i none m c = stays bad f scene s i none m c

-- the bio that is cut is none
pub cut_fits : (bad : Bio → ℕ) (scene : Scene) (s : State) → total_weight scene (misfits bad) s ≡ 0 → (place : ℕ) (x : TaskState) (bio hand : Item Pad) (lists : TaskLists)
    → place < scene.tasks → s.task place ≡ x → HasSubmission x (Drives bio (ToCut (Links hand))) lists → bad bio.bio ≡ 0
cut_fits bad scene s none place x bio hand lists lt is h = omega (arith, none, submission_part scene (misfits bad) s place x (Drives bio (ToCut (Links hand))) lists lt is h)
