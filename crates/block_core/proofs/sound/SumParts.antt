-- Parts of sums, and what events do to elements.
use Rattle.std.proofs.Common.{◌≡◌, ◌+◌, ◌-◌, ◌*◌, ◌<◌, ◌≤◌, ◌==◌, ◌++◌, if◌then◌else◌, ℕ, Bool, true, false, List, [], ◌∷◌, Option, None, Some, inl, inr, refl, ◌∙◌, ap, subst, arith}
use Rattle.std.specs.Prelude.{sum_by}
use Rattle.std.proofs.lemmas.List.Sums.{sum_by-cons, sum_by_push}
use Rattle.stack_base.specs.declared.ids.DevId.{DevId}
use Rattle.stack_base.specs.declared.ids.Status.{Status}
use Rattle.stack_base.specs.declared.stack.Kind.{Kind}
use Rattle.stack_base.specs.Tree.{Tree}
use Rattle.mempool_core.specs.Move.{PoolState, PoolMove, after_move, takes_ordinary, takes_spare, misses, gives, resizes}
use Rattle.bio_records.specs.declared.bio.Bio.{Bio}
use Rattle.bio_records.specs.declared.bio.Pad.{Pad}
use Rattle.bio_records.specs.declared.tasks.TaskLists.{TaskLists}
use Rattle.bio_records.specs.Items.{Item}
use Rattle.bio_split.specs.Split.{split_rest}
use Rattle.bio_books.specs.declared.node.Role.{Role}
use Rattle.bio_books.specs.declared.node.Role.TheVariants as role
use Rattle.bio_books.specs.Books.{Node, VectorItem, Holding, node_at, top_node, told}
use Rattle.run_machine.specs.Maps.{upd}
use Rattle.run_machine.specs.Scene.{Setup, Scene, tree_at}
use Rattle.bioset_pools.specs.Sets.{waits_first}
use Rattle.run_machine.specs.Submissions.{Takes, Doing, Copies, rests, settled, goes_on, copies, legs_of}
use Rattle.run_machine.specs.Tasks.{TaskState, Writer, Completer, Todo, Carried, Empty, Brings, Carries, Fails}
use Rattle.run_machine.specs.Runs.{State}
use Rattle.block_core.specs.Weights.{Weight, Lined, total_weight, one_if_same, doing_weight, task_weight, submission_weight, carried_weight, elements_of_pool, holding_elements, names_node}
use Rattle.block_core.proofs.moves.Moves.{limit_of, HasSubmission, gathered_of, filled_of, vector_of, cut_lists, IsTake, TellsNode, Releases, piece}
use Rattle.block_core.proofs.moves.Sums.{weight-upd, one-same}
use Rattle.block_core.proofs.moves.Totals.{task_part, submission_part as submission_in_task}
use Rattle.block_core.proofs.moves.SubmissionWeights.{IsBlind, goes_weight, first_weight}
use Rattle.block_core.specs.Roles.{named}
use Rattle.block_core.proofs.sound.Invariant.{away, own_part, own_of, Invariant}

taken_out : (pool : PoolState) (move : PoolMove) → IsTake move → (after_move pool move).facts.out ≡ pool.facts.out + 1
taken_out pool takes_ordinary h = refl
taken_out pool takes_spare h = refl
taken_out pool (misses used) h = absurd h
taken_out pool gives h = absurd h
taken_out pool (resizes min) h = absurd h

-- a pool's out after a take, a miss and a give
pub out_more : (f : ℕ → PoolState) (p : ℕ) (move : PoolMove) (q : ℕ) → IsTake move → (upd f p (after_move (f p) move) q).facts.out ≡ (f q).facts.out + one_if_same p q
out_more f p move q h = omega (arith, weight-upd (λ (y : PoolState). y.facts.out) f p (after_move (f p) move) q, ap (λ n. one_if_same p q * n) (taken_out (f p) move h))

pub out_same : (f : ℕ → PoolState) (p : ℕ) (used : Bool) (q : ℕ) → (upd f p (after_move (f p) (misses used)) q).facts.out ≡ (f q).facts.out
out_same f p used q = omega (arith, weight-upd (λ (y : PoolState). y.facts.out) f p (after_move (f p) (misses used)) q)

pub out_less : (f : ℕ → PoolState) (p q : ℕ) → 1 ≤ (f p).facts.out → (upd f p (after_move (f p) gives) q).facts.out + one_if_same p q ≡ (f q).facts.out
out_less f p q le =
    let one_less : (f p).facts.out - 1 + 1 ≡ (f p).facts.out = omega arith in
    omega (arith, weight-upd (λ (y : PoolState). y.facts.out) f p (after_move (f p) gives) q, ap (λ n. one_if_same p q * n) one_less)

-- a weight of the two parts of a split, behind list 0
pub cut_weight : (g : Item Pad → ℕ) (bio : Item Pad) (lists : TaskLists) (hand : Item Pad) (n key : ℕ) (kind : Kind) (sizes : List ℕ) (members : ℕ → Tree)
    → sum_by g (cut_lists bio lists hand n key kind sizes members).list0 ≡ sum_by g lists.list0 + g (piece bio hand n key kind sizes members) + g (split_rest bio n)
cut_weight g bio lists hand n key kind sizes members =
    let child = piece bio hand n key kind sizes members in
    omega (arith, sum_by_push g lists.list0 child, sum_by_push g (lists.list0 ++ child ∷ []) (split_rest bio n))

-- the place of an element does not matter to its pool
pub blind_elements : (q : ℕ) → IsBlind (elements_of_pool q)
blind_elements q limit item t = refl

pub begun_elements : (scene : Scene) (q writer : ℕ) (todo : Todo) (later : List Todo) (item : Item Pad) (vector : Option VectorItem) (key : ℕ)
    → submission_weight (elements_of_pool q) 32 (settled scene.setup (filled_of writer todo item vector key ∷ [])) + (elements_of_pool q).node writer key (top_node todo.number (vector_of todo vector))
    ≡ task_weight (elements_of_pool q) 0 (Writer writer (todo ∷ later) (gathered_of item vector) rests)
begun_elements scene q writer todo later item None key =
    omega (arith, first_weight (elements_of_pool q) (blind_elements q) 32 scene.setup (filled_of writer todo item None key ∷ []), sum_by-cons (λ (bio : Item Pad). one_if_same bio.share.no q) (filled_of writer todo item None key) [])
begun_elements scene q writer todo later item (Some vector) key =
    omega (arith, first_weight (elements_of_pool q) (blind_elements q) 32 scene.setup (filled_of writer todo item (Some vector) key ∷ []), sum_by-cons (λ (bio : Item Pad). one_if_same bio.share.no q) (filled_of writer todo item (Some vector) key) [])

pub released_elements : (q number : ℕ) (old new : Holding) → Releases old number new → holding_elements q new + one_if_same number q ≡ holding_elements q old
released_elements q number old new (inl h) = rw (h.3, h.1, h.2) (omega arith)
released_elements q number old new (inr (inl h)) = rw (h.3, h.1, h.2) (omega arith)
released_elements q number old new (inr (inr h)) = rw (h.3, h.1, h.2) (omega arith)

-- what is left to copy behind the last leg, and before
abbrev pub unless : Bool → ℕ → ℕ
unless v n = if v then 0 else n

pub unless_less : (v : Bool) (n : ℕ) → unless v n ≤ n
unless_less true n = omega arith
unless_less false n = omega arith

pub unless_none : (v : Bool) → unless v 0 ≡ 0
unless_none true = refl
unless_none false = refl

-- the weight of a mirror's next leg and of what waits, where the place in the stack does not matter
pub copies_weight : (w : Weight) → IsBlind w → (limit : ℕ) (setup : Setup) (lists : TaskLists) (bio : Bio) (master leg : ℕ)
    → submission_weight w limit (copies setup lists bio master leg)
    ≡ unless (leg == legs_of (tree_at setup bio.dev)) (w.copy bio master leg) + sum_by (w.bio (Lined limit)) lists.list0 + sum_by (w.bio (Lined limit)) lists.list1
copies_weight w blind limit setup lists bio master leg =
    elim (leg == legs_of (tree_at setup bio.dev))
    as (λ v. submission_weight w limit (if v then goes_on setup bio.dev lists else record { doing = Copies bio master leg (Takes (waits_first (setup.rescuer bio.dev.0) lists)); lists = lists })
    ≡ unless v (w.copy bio master leg) + sum_by (w.bio (Lined limit)) lists.list0 + sum_by (w.bio (Lined limit)) lists.list1) [
      | true ↦ omega (arith, goes_weight w blind limit setup bio.dev lists)
      | false ↦ omega arith
    ]

-- a submission's weight is a part of the whole
pub submission_part : (scene : Scene) (w : Weight) (s : State) (place : ℕ) (x : TaskState) (doing : Doing) (lists : TaskLists) → place < scene.tasks → s.task place ≡ x
    → HasSubmission x doing lists → doing_weight w (limit_of x) doing ≤ total_weight scene w s
submission_part scene w s place x doing lists lt is h =
    omega (arith, submission_in_task w place x doing lists h, task_part scene w s place x lt is)

-- A bio that a task's driver has names a node whose own part is away, and which is no master.
pub named_away : (scene : Scene) (s : State) (bio : Item Pad) (node : Node) → Invariant scene s → node_at (s.objects.book bio.bio.writer) bio.bio.node ≡ Some node
    → names_node bio.bio.writer bio.bio.node bio ≤ total_weight scene (named bio.bio.writer bio.bio.node) s → (node.held.bio ≡ None) × (own_part node.role None ≡ 1)
named_away scene s bio node i at part =
    let a : names_node bio.bio.writer bio.bio.node bio ≡ 1 = rw (one-same bio.bio.writer, one-same bio.bio.node) refl in
    let o = i.owns bio.bio.writer bio.bio.node in
    let q : own_of (node_at (s.objects.book bio.bio.writer) bio.bio.node) ≡ own_part node.role node.held.bio = ap own_of at in
    by_part node.role node.held.bio (omega (arith, a, o, q, part))
  where
    by_away : (held : Option (Item Pad)) → 1 ≤ away held → held ≡ None
    by_away None h = refl
    by_away (Some other) h = absurd (omega (arith, h))

    by_part : (r : Role) (held : Option (Item Pad)) → 1 ≤ own_part r held → (held ≡ None) × (own_part r None ≡ 1)
    by_part role.Top held h = (by_away held h, refl)
    by_part (role.Chain parent) held h = (by_away held h, refl)
    by_part (role.Master parent) held h = absurd (omega (arith, h))
    by_part (role.Leg parent) held h = (by_away held h, refl)

-- so does one that a completer brings
pub brought_away : (scene : Scene) (s : State) (place : ℕ) (disk : DevId) (bio : Item Pad) (status : Status) (node : Node) → Invariant scene s
    → place < scene.tasks → s.task place ≡ Completer disk (Brings bio status) → node_at (s.objects.book bio.bio.writer) bio.bio.node ≡ Some node
    → (node.held.bio ≡ None) × (own_part node.role None ≡ 1)
brought_away scene s place disk bio status node i lt is at =
    named_away scene s bio node i at (task_part scene (named bio.bio.writer bio.bio.node) s place (Completer disk (Brings bio status)) lt is)

-- what a node holds once it was told
pub told_elements : (q writer key : ℕ) (status : Status) (part : Option (Item Pad)) (carried : Carried) (node : Node) → TellsNode carried writer key status part
    → ((bio : Item Pad) (ending : Status) → carried ≡ Brings bio ending → node.held.bio ≡ None)
    → holding_elements q (told node status part).held ≡ holding_elements q node.held + carried_weight (elements_of_pool q) 0 carried
told_elements q writer key status part (Brings bio ending) node t none =
    let a : node.held.bio ≡ None = none bio ending refl in rw (a, t.3) (omega arith)
told_elements q writer key status part (Carries of closed) node t none = rw (t.3, t.4) (omega arith)
told_elements q writer key status part Empty node t none = absurd t
told_elements q writer key status part (Fails breach kept) node t none = absurd t

pub is_away : (scene : Scene) (s : State) (place : ℕ) (disk : DevId) (carried : Carried) (writer key : ℕ) (status : Status) (part : Option (Item Pad)) (node : Node) → Invariant scene s
    → place < scene.tasks → s.task place ≡ Completer disk carried → TellsNode carried writer key status part → node_at (s.objects.book writer) key ≡ Some node
    → (bio : Item Pad) (ending : Status) → carried ≡ Brings bio ending → (node.held.bio ≡ None) × (own_part node.role None ≡ 1)
is_away scene s place disk carried writer key status part node i lt is t at bio ending same =
    let is2 : s.task place ≡ Completer disk (Brings bio ending) = is ∙ ap (Completer disk) same in
    let t2 : TellsNode (Brings bio ending) writer key status part = subst (λ x. TellsNode x writer key status part) same t in
    let at2 : node_at (s.objects.book bio.bio.writer) bio.bio.node ≡ Some node = subst (λ k. node_at (s.objects.book bio.bio.writer) k ≡ Some node) t2.1 (subst (λ v. node_at (s.objects.book v) key ≡ Some node) t2.0 at) in
    brought_away scene s place disk bio ending node i lt is2 at2
