-- A node's own part is away exactly where one bio names it.
use Rattle.std.proofs.Common.{◌≡◌, ◌+◌, ◌*◌, ◌<◌, ◌≤◌, ◌==◌, ℕ, zero, suc, List, [], ◌∷◌, length, Option, None, Some, refl, ap, arith}
use Rattle.std.proofs.lemmas.List.Sums.{sum_by-cons, sum_by_push}
use Rattle.stack_base.specs.declared.ids.DevId.{DevId}
use Rattle.stack_base.specs.declared.ids.Status.{Status}
use Rattle.bio_records.specs.declared.bio.Bio.{Bio}
use Rattle.bio_records.specs.declared.bio.Pad.{Pad}
use Rattle.bio_records.specs.Items.{Item}
use Rattle.bio_lists.specs.Submission.{submitted}
use Rattle.bio_books.specs.declared.node.Role.{Role}
use Rattle.bio_books.specs.declared.node.Role.TheVariants as role
use Rattle.bio_books.specs.Books.{Node, BookState, VectorItem, node_at, top_node, child_node, master_node, leg_node, with_kept_part, raised, lowered, told, later_part}
use Rattle.run_machine.specs.Scene.{Setup, Scene, tree_at}
use Rattle.run_machine.specs.Submissions.{Want, Takes, WantsPunt, Links, ToPush, ToCut, ToRecord, ToMaster, Doing, Rests, Drives, Copies, Breaks, rests, settled, first_length, legs_of, leg_at}
use Rattle.run_machine.specs.Tasks.{TaskState, Writer, Rescuer, Completer, Keeper, Todo, Gathered, NoBio, HasBio, HasBoth, Carried, Empty, Brings, Carries, Fails}
use Rattle.run_machine.specs.Runs.{State}
use Rattle.block_core.specs.Weights.{total_weight, sum_at, one_if_same, weigh_option, want_weight, doing_weight, task_weight, submission_weight, gathered_weight, carried_weight, book_weight, names_node}
use Rattle.block_core.proofs.moves.References.{references, awaited_ends}
use Rattle.block_core.proofs.moves.Moves.{Move, Can, after, lost, gained, limit_of, gathered_of, filled_of, vector_of, cut_lists, TellsNode}
use Rattle.block_core.proofs.moves.Moves as moves
use Rattle.block_core.proofs.moves.Sums.{one-same}
use Rattle.block_core.proofs.moves.SubmissionWeights.{IsBlind, goes_weight, first_weight, landed_same}
use Rattle.block_core.proofs.moves.Deltas.{delta}
use Rattle.block_core.specs.Roles.{named}
use Rattle.block_core.proofs.sound.Invariant.{own_part, own_of, LedgersAreNumbered, Invariant}
use Rattle.block_core.proofs.sound.SumParts.{cut_weight, copies_weight, unless_none, submission_part, named_away, is_away}
use Rattle.block_core.proofs.moves.BookMaps.{made, became, chained}
use Rattle.block_core.proofs.sound.ReferencesCounted.{begun_names, tells_refs, leg_named, makes_leg}

sum_at-le : {X : Type 0} (v w : ℕ → X → ℕ) (n : ℕ) (f : ℕ → X) → ((i : ℕ) (x : X) → v i x ≤ w i x) → sum_at v n f ≤ sum_at w n f
unfolding sum_at
sum_at-le v w zero f h = omega arith
sum_at-le v w (suc n) f h = omega (arith, sum_at-le v w n f h, h n (f n))

module _ (setup : Setup) (w k : ℕ) where
  want_le : (want : Want) → want_weight (named w k) want ≤ want_weight (references setup w k) want
  want_le (Takes waits) = omega arith
  want_le WantsPunt = omega arith
  want_le (Links hand) = omega arith

  doing_le : (limit : ℕ) (doing : Doing) → doing_weight (named w k) limit doing ≤ doing_weight (references setup w k) limit doing
  doing_le limit Rests = omega arith
  doing_le limit (Drives bio ToPush) = omega arith
  doing_le limit (Drives bio (ToCut want)) = omega (arith, want_le want)
  doing_le limit (Drives bio ToRecord) = omega arith
  doing_le limit (Drives bio (ToMaster slip)) = omega arith
  doing_le limit (Copies bio master leg want) = omega (arith, want_le want)
  doing_le limit (Breaks breach kept) = omega arith

  taken_le : (taken : Gathered) → gathered_weight (named w k) taken ≤ gathered_weight (references setup w k) taken
  taken_le NoBio = omega arith
  taken_le (HasBio item) = omega arith
  taken_le (HasBoth item vector) = omega arith

  task_le : (place : ℕ) (x : TaskState) → task_weight (named w k) place x ≤ task_weight (references setup w k) place x
  task_le place (Writer number todo taken submission) = omega (arith, doing_le 32 submission.doing, taken_le taken)
  task_le place (Rescuer dev submission) = omega (arith, doing_le dev.0 submission.doing)
  task_le place (Completer disk Empty) = omega arith
  task_le place (Completer disk (Brings bio status)) = omega arith
  task_le place (Completer disk (Carries writer closed)) = omega arith
  task_le place (Completer disk (Fails breach kept)) = omega arith
  task_le place (Keeper keeping) = omega arith

  node_le : (writer place : ℕ) (x : Option Node) → weigh_option ((named w k).node writer place) x ≤ weigh_option ((references setup w k).node writer place) x
  node_le writer place None = omega arith
  node_le writer place (Some node) = omega arith

-- a bio that names a node refers to it
pub named_le : (scene : Scene) (w k : ℕ) (s : State) → total_weight scene (named w k) s ≤ total_weight scene (references scene.setup w k) s
named_le scene w k s =
    omega (
      arith,
      sum_at-le (task_weight (named w k)) (task_weight (references scene.setup w k)) scene.tasks s.task (λ place x. task_le scene.setup w k place x),
      sum_at-le (book_weight (named w k)) (book_weight (references scene.setup w k)) scene.books s.objects.book
          (λ writer book. sum_at-le (λ place. weigh_option ((named w k).node writer place)) (λ place. weigh_option ((references scene.setup w k).node writer place)) (length book.nodes) (node_at book)
          (λ place x. node_le scene.setup w k writer place x)),
    )

blind_named : (w k : ℕ) → IsBlind (named w k)
blind_named w k limit item t = landed_same (λ (bio : Bio). one_if_same bio.writer w * one_if_same bio.node k) (λ to members bio. refl) t item.bio

begun_named : (setup : Setup) (w k writer : ℕ) (todo : Todo) (later : List Todo) (item : Item Pad) (vector : Option VectorItem) (key : ℕ)
    → submission_weight (named w k) 32 (settled setup (filled_of writer todo item vector key ∷ []))
    ≡ task_weight (named w k) 0 (Writer writer (todo ∷ later) (gathered_of item vector) rests) + one_if_same writer w * one_if_same key k
begun_named setup w k writer todo later item None key =
    omega (arith, first_weight (named w k) (blind_named w k) 32 setup (filled_of writer todo item None key ∷ []), begun_names (names_node w k) w k refl writer todo item None key)
begun_named setup w k writer todo later item (Some vector) key =
    omega (arith, first_weight (named w k) (blind_named w k) 32 setup (filled_of writer todo item (Some vector) key ∷ []), begun_names (names_node w k) w k refl writer todo item (Some vector) key)

abbrev pub brought : Carried → ℕ
brought Empty = 0
brought (Brings bio ending) = 1
brought (Carries writer closed) = 0
brought (Fails breach kept) = 0

tells_named : (w k writer key : ℕ) (status : Status) (part : Option (Item Pad)) (carried : Carried) → TellsNode carried writer key status part
    → carried_weight (named w k) 0 carried ≡ one_if_same writer w * (one_if_same key k * brought carried)
tells_named w k writer key status part (Brings bio ending) t = rw (t.0, t.1) (omega arith)
tells_named w k writer key status part (Carries of closed) t = omega arith
tells_named w k writer key status part Empty t = absurd t
tells_named w k writer key status part (Fails breach kept) t = absurd t

-- a part that has come is away no more
pub own_some : (r : Role) (bio : Item Pad) → own_part r (Some bio) ≡ 0
own_some role.Top bio = refl
own_some (role.Chain parent) bio = refl
own_some (role.Master parent) bio = refl
own_some (role.Leg parent) bio = refl

pub told_own : (writer key : ℕ) (status : Status) (part : Option (Item Pad)) (carried : Carried) (node : Node) → TellsNode carried writer key status part
    → ((bio : Item Pad) (ending : Status) → carried ≡ Brings bio ending → (node.held.bio ≡ None) × (own_part node.role None ≡ 1))
    → own_part node.role (told node status part).held.bio + brought carried ≡ own_part node.role node.held.bio
told_own writer key status part (Brings bio ending) node t none =
    let a = none bio ending refl in
    let b : own_part node.role node.held.bio ≡ own_part node.role None = ap (own_part node.role) a.0 in
    let c : own_part node.role (told node status part).held.bio ≡ own_part node.role (Some bio) = ap (λ p. own_part node.role (later_part node.held.bio p)) t.3 in
    omega (arith, a.1, b, c, own_some node.role bio)
told_own writer key status part (Carries of closed) node t none =
    let c : own_part node.role (told node status part).held.bio ≡ own_part node.role node.held.bio = ap (λ p. own_part node.role (later_part node.held.bio p)) t.3 in
    omega (arith, c)
told_own writer key status part Empty node t none = absurd t
told_own writer key status part (Fails breach kept) node t none = absurd t

module _ (scene : Scene) (s : State) (f : LedgersAreNumbered scene) (i : Invariant scene s) where
  same : (m : Move) → Can scene s m → (w k : ℕ) → (after scene s m).objects.book ≡ s.objects.book → lost scene (named w k) s m ≡ gained scene (named w k) s m
      → own_of (node_at ((after scene s m).objects.book w) k) ≡ total_weight scene (named w k) (after scene s m)
  same m c w k books even =
      let b : own_of (node_at ((after scene s m).objects.book w) k) ≡ own_of (node_at (s.objects.book w) k) = ap (λ (book : ℕ → BookState). own_of (node_at (book w) k)) books in
      omega (arith, b, i.owns w k, delta scene (named w k) s m c, even)

  -- a node whose last end is told has its part
  pub closing_own : (place : ℕ) (disk : DevId) (carried : Carried) (writer key : ℕ) (status : Status) (part : Option (Item Pad)) (node : Node)
      → Can scene s (moves.Closes place disk carried writer key status part node) → 0 + brought carried ≡ own_of (Some node)
  closing_own place disk carried writer key status part node c =
      let one_ref : awaited_ends (node_at (s.objects.book writer) key) ≡ node.count = ap awaited_ends c.4 in
      let last : node.count ≡ 1 = c.5 in
      let own : own_of (node_at (s.objects.book writer) key) ≡ own_part node.role node.held.bio = ap own_of c.4 in
      let t : one_if_same writer writer * one_if_same key key ≡ 1 = rw (one-same writer, one-same key) refl in
      let t2 : one_if_same writer writer * (one_if_same key key * brought carried) ≡ brought carried = rw (one-same writer, one-same key) (omega arith) in
      omega (
        arith,
        i.counts writer key,
        i.owns writer key,
        delta scene (references scene.setup writer key) s (moves.Closes place disk carried writer key status part node) c,
        delta scene (named writer key) s (moves.Closes place disk carried writer key status part node) c,
        tells_refs scene.setup writer key writer key status part carried c.2,
        tells_named writer key writer key status part carried c.2,
        named_le scene writer key (after scene s (moves.Closes place disk carried writer key status part node)),
      )

  pub owns : (m : Move) → Can scene s m → (w k : ℕ) → own_of (node_at ((after scene s m).objects.book w) k) ≡ total_weight scene (named w k) (after scene s m)
  -- takes, misses, punts, pops, pushes and completions
  owns (moves.TakesFirst place writer todo later move) c w k = same (moves.TakesFirst place writer todo later move) c w k refl refl
  owns (moves.TakesVector place writer todo later item move) c w k = same (moves.TakesVector place writer todo later item move) c w k refl refl
  owns (moves.TakesSub place x doing lists dev waits move) c w k = same (moves.TakesSub place x doing lists dev waits move) c w k refl refl
  owns (moves.TakesSlip place x bio lists move) c w k = same (moves.TakesSlip place x bio lists move) c w k refl refl
  owns (moves.MissesOne place x number used) c w k = same (moves.MissesOne place x number used) c w k refl refl
  owns (moves.MissesTry place x doing lists dev used) c w k = same (moves.MissesTry place x doing lists dev used) c w k refl refl
  owns (moves.Punts place x doing lists dev) c w k = same (moves.Punts place x doing lists dev) c w k refl refl
  owns (moves.Pops place dev bio bios) c w k =
      same (moves.Pops place dev bio bios) c w k refl (omega (arith, first_weight (named w k) (blind_named w k) dev.0 scene.setup (bio ∷ []), sum_by-cons (names_node w k) bio []))
  owns (moves.Pushes place x bio lists) c w k =
      same (moves.Pushes place x bio lists) c w k refl (omega (arith, goes_weight (named w k) (blind_named w k) (limit_of x) scene.setup bio.bio.dev lists))
  owns (moves.Completed place disk index bio status new) c w k = same (moves.Completed place disk index bio status new) c w k refl refl
  -- links of writes
  owns (moves.Begins place writer todo later item vector key) c w k =
      omega (
        arith,
        i.owns w k,
        delta scene (named w k) s (moves.Begins place writer todo later item vector key) c,
        begun_named scene.setup w k writer todo later item vector key,
        made own_of refl s.objects.book writer key (top_node todo.number (vector_of todo vector)) w k 1 c.3 refl,
      )
  -- links of pieces
  owns (moves.Chained place x bio lists hand number kind sizes members key node) c w k =
      let n = first_length kind sizes bio.bio.range in
      omega (
        arith,
        i.owns w k,
        delta scene (named w k) s (moves.Chained place x bio lists hand number kind sizes members key node) c,
        goes_weight (named w k) (blind_named w k) (limit_of x) scene.setup bio.bio.dev (cut_lists bio lists hand n key kind sizes members),
        cut_weight (names_node w k) bio lists hand n key kind sizes members,
        chained own_of refl s.objects.book bio.bio.writer key bio.bio.node node (child_node node.write bio.bio.node) (raised node) w k 1 0 0 c.6 c.5 refl refl,
      )
  -- links of masters
  owns (moves.Mastered place x bio lists slip key node) c w k =
      let legs = legs_of (tree_at scene.setup bio.bio.dev) in
      let part = submission_part scene (named bio.bio.writer bio.bio.node) s place x (Drives bio (ToMaster slip)) lists c.0 c.1 c.2 in
      let a = named_away scene s bio node i c.4 (omega (arith, part)) in
      let b : own_part node.role node.held.bio ≡ own_part node.role None = ap (own_part node.role) a.0 in
      let lost_own : own_of (Some (with_kept_part bio node)) + 1 ≡ own_of (Some node) + 0 = omega (arith, a.1, b, own_some node.role bio) in
      omega (
        arith,
        i.owns w k,
        delta scene (named w k) s (moves.Mastered place x bio lists slip key node) c,
        copies_weight (named w k) (blind_named w k) (limit_of x) scene.setup lists bio.bio key 0,
        unless_none (0 == legs),
        chained own_of refl s.objects.book bio.bio.writer key bio.bio.node node (master_node node.write bio.bio.node slip legs) (with_kept_part bio node) w k 0 0 1 c.5 c.4 refl lost_own,
      )
  -- links of legs
  owns (moves.Legged place x bio lists master leg hand key node) c w k =
      let legs = legs_of (tree_at scene.setup bio.dev) in
      let item = leg_at bio hand leg key (tree_at scene.setup bio.dev) in
      let lt : leg < legs = makes_leg scene s place x bio master leg (Links hand) lists i c.1 c.2 in
      omega (
        arith,
        i.owns w k,
        delta scene (named w k) s (moves.Legged place x bio lists master leg hand key node) c,
        copies_weight (named w k) (blind_named w k) (limit_of x) scene.setup (submitted item lists) bio master (leg + 1),
        unless_none (leg + 1 == legs),
        sum_by_push (names_node w k) lists.list0 item,
        leg_named w k bio hand leg key (tree_at scene.setup bio.dev) lt,
        made own_of refl s.objects.book bio.writer key (leg_node node.write master) w k 1 c.5 refl,
      )
  -- drops that leave a node open
  owns (moves.Told place disk carried writer key status part node) c w k =
      omega (
        arith,
        i.owns w k,
        delta scene (named w k) s (moves.Told place disk carried writer key status part node) c,
        tells_named w k writer key status part carried c.2,
        became own_of s.objects.book writer key node (Some (lowered (told node status part))) w k (brought carried) c.4
            (told_own writer key status part carried node c.2 (is_away scene s place disk carried writer key status part node i c.0 c.1 c.2 c.4)),
      )
  -- drops that close a node
  owns (moves.Closes place disk carried writer key status part node) c w k =
      omega (
        arith,
        i.owns w k,
        delta scene (named w k) s (moves.Closes place disk carried writer key status part node) c,
        tells_named w k writer key status part carried c.2,
        became own_of s.objects.book writer key node None w k (brought carried) c.4 (closing_own place disk carried writer key status part node c),
      )
  -- gives, ends of writes, resizes and rounds
  owns (moves.Gives place disk writer number closed held) c w k = same (moves.Gives place disk writer number closed held) c w k refl refl
  owns (moves.Ends place disk writer closed) c w k = same (moves.Ends place disk writer closed) c w k refl refl
  owns (moves.Resized place pool min later duties) c w k = same (moves.Resized place pool min later duties) c w k refl refl
  owns (moves.Started place round later duties) c w k = same (moves.Started place round later duties) c w k refl refl
