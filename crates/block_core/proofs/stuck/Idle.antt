-- Where no write is begun, no node is open and every element is at home.
use Rattle.std.proofs.Common.{◌≡◌, ◌+◌, ◌*◌, ◌<◌, ◌≤◌, ℕ, zero, suc, List, [], ◌∷◌, length, Option, None, Some, inl, inr, refl, sym, ◌∙◌, ap, arith, get_or}
use Rattle.std.specs.Prelude.{sum_by}
use Rattle.std.proofs.lemmas.List.Sums.{sum_by-cons}
use Rattle.stack_base.specs.declared.ids.DevId.{DevId}
use Rattle.bio_records.specs.declared.bio.Pad.{Pad}
use Rattle.bio_records.specs.declared.tasks.TaskLists.{TaskLists}
use Rattle.bio_records.specs.Items.{Item}
use Rattle.bio_lists.specs.Submission.{no_lists}
use Rattle.bio_books.specs.Books.{Node, node_at, parent_of}
use Rattle.bio_books.specs.Drops.{Closed}
use Rattle.model_disks.specs.Disks.{DiskState}
use Rattle.run_machine.specs.Scene.{Scene}
use Rattle.run_machine.specs.Submissions.{Doing, Rests, Drives, Copies, Breaks, Submission}
use Rattle.run_machine.specs.Tasks.{TaskState, Writer, Rescuer, Completer, Keeper, Todo, Gathered, NoBio, HasBio, HasBoth, Empty, Brings, Carries, Fails}
use Rattle.run_machine.specs.Runs.{State}
use Rattle.block_core.specs.Weights.{Weight, Rescued, Pending, total_weight, sum_at, one_if_same, weigh_option, submission_weight, task_weight, book_weight, elements_of_pool, names_node, under, legs_left}
use Rattle.block_core.proofs.moves.References.{references, awaited_ends}
use Rattle.block_core.proofs.moves.Moves.{HasSubmission}
use Rattle.block_core.proofs.moves.Sums.{one-same, within_book, below_or}
use Rattle.block_core.proofs.sound.Invariant.{DoingFits, TaskIsSound, Invariant}
use Rattle.block_core.proofs.start.InvariantAtStart.{nodes_zero}
use Rattle.block_core.proofs.moves.Totals.{part_of, task_part, submission_part}

-- sums of nothing
pub sum_none : {X : Type 0} (w : ℕ → X → ℕ) (n : ℕ) (f : ℕ → X) → ((i : ℕ) → i < n → w i (f i) ≡ 0) → sum_at w n f ≡ 0
unfolding sum_at
sum_none w zero f none = refl
sum_none w (suc n) f none = omega (arith, sum_none w n f (λ i lt. none i (omega (arith, lt))), none n (omega arith))

-- a node has a level below that of the node that it is under
abbrev pub GoesDown : State → (ℕ → ℕ → ℕ) → Type 0
GoesDown s level =
    (writer key : ℕ) (node : Node) (parent : ℕ) → node_at (s.objects.book writer) key ≡ Some node → parent_of node.role ≡ Some parent
    → level writer key < level writer parent

-- nothing is begun of any write: no top node is open or carried, and no writer has something in hand
pub record NoneBegun (scene : Scene) (s : State) : Type 0 where
  pub tops : (writer key : ℕ) (node : Node) → writer < scene.books → node_at (s.objects.book writer) key ≡ Some node → parent_of node.role ≡ None → ⊥
  pub carried : (place : ℕ) (disk : DevId) (writer : ℕ) (closed : Closed) → place < scene.tasks → s.task place ≡ Completer disk (Carries writer closed)
      → closed.parent ≡ None → ⊥
  pub hands : (place number : ℕ) (todos : List Todo) (taken : Gathered) (submission : Submission) → place < scene.tasks → s.task place ≡ Writer number todos taken submission → taken ≡ NoBio

-- a book with an open node is one of the books, and the node is a part of all
pub open_in_books : (scene : Scene) (s : State) → Invariant scene s → (writer key : ℕ) (node : Node) → node_at (s.objects.book writer) key ≡ Some node → writer < scene.books
open_in_books scene s i writer key node at = elim (below_or writer scene.books) [
  | inl lt ↦ lt
  | inr ge ↦
      let a : node_at (s.objects.book writer) key ≡ None = ap (λ (nodes : List (Option Node)). get_or nodes key None) (i.inside writer ge) in
      let b : None ≡ Some node = sym a ∙ at in absurd cc
]

-- what is referred to is open, and waits for an end
pub open_at : (scene : Scene) (s : State) → Invariant scene s → (writer key : ℕ) → 1 ≤ total_weight scene (references scene.setup writer key) s
    → (node : Node) × (node_at (s.objects.book writer) key ≡ Some node) × (1 ≤ node.count)
open_at scene s i writer key some = by_node (node_at (s.objects.book writer) key) refl
  where
    by_node : (found : Option Node) → node_at (s.objects.book writer) key ≡ found → (node : Node) × (node_at (s.objects.book writer) key ≡ Some node) × (1 ≤ node.count)
    by_node None at = absurd (let count : awaited_ends (node_at (s.objects.book writer) key) ≡ 0 = ap awaited_ends at in omega (arith, some, count, i.counts writer key))
    by_node (Some node) at =
        let count : awaited_ends (node_at (s.objects.book writer) key) ≡ node.count = ap awaited_ends at in
        (node, at, omega (arith, some, count, i.counts writer key))

pub node_part : (scene : Scene) (s : State) → Invariant scene s → (w : Weight) (writer key : ℕ) (node : Node) → node_at (s.objects.book writer) key ≡ Some node
    → w.node writer key node ≤ total_weight scene w s
node_part scene s i w writer key node at =
    let same : weigh_option (w.node writer key) (node_at (s.objects.book writer) key) ≡ w.node writer key node = ap (weigh_option (w.node writer key)) at in
    omega (
      arith,
      same,
      part_of (λ place. weigh_option (w.node writer place)) (length (s.objects.book writer).nodes) (node_at (s.objects.book writer)) key (within_book (s.objects.book writer) key node at),
      part_of (book_weight w) scene.books s.objects.book writer (open_in_books scene s i writer key node at),
    )

-- a bio refers to the node that it names
pub names_one : (item : Item Pad) → names_node item.bio.writer item.bio.node item ≡ 1
names_one item = ap (λ n. n * one_if_same item.bio.node item.bio.node) (one-same item.bio.writer) ∙ ap (λ n. 1 * n) (one-same item.bio.node)

module _ (scene : Scene) (s : State) (i : Invariant scene s) (level : ℕ → ℕ → ℕ) (down : GoesDown s level) (none : NoneBegun scene s) where
  -- no level in a book is above all of them together, so a way up from node to node would come to a top
  no_way_up : (fuel writer key : ℕ) (node : Node) → node_at (s.objects.book writer) key ≡ Some node
      → sum_at (λ place (found : Option Node). level writer place) (length (s.objects.book writer).nodes) (node_at (s.objects.book writer)) < level writer key + fuel → ⊥
  no_way_up zero writer key node at lt =
      omega (
        arith,
        lt,
        part_of (λ place (found : Option Node). level writer place) (length (s.objects.book writer).nodes) (node_at (s.objects.book writer)) key
            (within_book (s.objects.book writer) key node at),
      )
  no_way_up (suc fuel) writer key node at lt = by_parent (λ k found is more. no_way_up fuel writer k found is more) (parent_of node.role) refl
    where
      by_parent : ((k : ℕ) (found : Node) → node_at (s.objects.book writer) k ≡ Some found
          → sum_at (λ place (found : Option Node). level writer place) (length (s.objects.book writer).nodes) (node_at (s.objects.book writer)) < level writer k + fuel → ⊥)
          → (parent : Option ℕ) → parent_of node.role ≡ parent → ⊥
      by_parent on None is = none.tops writer key node (open_in_books scene s i writer key node at) at is
      by_parent on (Some parent) is =
          let refers : under writer parent writer (parent_of node.role) ≡ 1 =
          ap (under writer parent writer) is ∙ (ap (λ n. n * one_if_same parent parent) (one-same writer) ∙ ap (λ n. 1 * n) (one-same parent)) in
          let up = open_at scene s i writer parent (omega (arith, refers, node_part scene s i (references scene.setup writer parent) writer key node at)) in
          on parent up.0 up.1 (omega (arith, lt, down writer key node parent at is))

  pub none_open : (writer key : ℕ) → node_at (s.objects.book writer) key ≡ None
  none_open writer key = by_node (node_at (s.objects.book writer) key) refl
    where
      by_node : (found : Option Node) → node_at (s.objects.book writer) key ≡ found → node_at (s.objects.book writer) key ≡ None
      by_node None at = at
      by_node (Some node) at = absurd (no_way_up
          (sum_at (λ place (found : Option Node). level writer place) (length (s.objects.book writer).nodes) (node_at (s.objects.book writer)) + 1) writer key node at (omega arith))

  -- so nothing refers to a node
  no_ref : (writer key : ℕ) → total_weight scene (references scene.setup writer key) s ≡ 0
  no_ref writer key = let count : awaited_ends (node_at (s.objects.book writer) key) ≡ 0 = ap awaited_ends (none_open writer key) in omega (arith, count, i.counts writer key)

  -- a task that submits has a bio that names a node, or copies one for a master
  no_submission : (place : ℕ) (x : TaskState) (doing : Doing) (lists : TaskLists) → place < scene.tasks → s.task place ≡ x → HasSubmission x doing lists → DoingFits scene.setup doing lists
      → (doing ≡ Rests) × (lists ≡ no_lists)
  no_submission place x Rests lists here is h fits = (refl, fits)
  no_submission place x (Breaks breach kept) lists here is h fits = absurd fits
  no_submission place x (Drives bio ask) lists here is h fits =
      let w = references scene.setup bio.bio.writer bio.bio.node in
      absurd (omega (arith, names_one bio, no_ref bio.bio.writer bio.bio.node, task_part scene w s place x here is, submission_part w place x (Drives bio ask) lists h))
  no_submission place x (Copies bio master leg want) lists here is h fits =
      let w = references scene.setup bio.writer master in
      let left = legs_left scene.setup bio leg in
      let refers : one_if_same bio.writer bio.writer * one_if_same master master * left ≡ left =
      ap (λ k. k * one_if_same master master * left) (one-same bio.writer) ∙ (ap (λ k. 1 * k * left) (one-same master) ∙ omega arith) in
      absurd (omega (arith, refers, fits, no_ref bio.writer master, task_part scene w s place x here is, submission_part w place x (Copies bio master leg want) lists h))

  resting : (q limit : ℕ) (submission : Submission) → (submission.doing ≡ Rests) × (submission.lists ≡ no_lists) → submission_weight (elements_of_pool q) limit submission ≡ 0
  resting q limit submission at = rw (at.0, at.1) refl

  task_home : (q place : ℕ) (x : TaskState) → place < scene.tasks → s.task place ≡ x → TaskIsSound scene x → task_weight (elements_of_pool q) place x ≡ 0
  -- writers: none has a submission or a bio in its hand
  task_home q place (Writer number todos NoBio submission) here is fits =
      omega (arith, resting q 32 submission (no_submission place (Writer number todos NoBio submission) submission.doing submission.lists here is refl fits.1))
  task_home q place (Writer number todos (HasBio item) submission) here is fits = absurd (let same = none.hands place number todos (HasBio item) submission here is in cc)
  task_home q place (Writer number todos (HasBoth item vector) submission) here is fits = absurd (let same = none.hands place number todos (HasBoth item vector) submission here is in cc)
  -- rescuers: none has a submission
  task_home q place (Rescuer dev submission) here is fits = resting q dev.0 submission (no_submission place (Rescuer dev submission) submission.doing submission.lists here is refl fits.1)
  -- completers: what one brings or carries would refer to a node, and none is open
  task_home q place (Completer disk Empty) here is fits = refl
  task_home q place (Completer disk (Brings bio status)) here is fits =
      absurd (omega (
        arith,
        names_one bio,
        no_ref bio.bio.writer bio.bio.node,
        task_part scene (references scene.setup bio.bio.writer bio.bio.node) s place (Completer disk (Brings bio status)) here is,
      ))
  task_home q place (Completer disk (Carries writer closed)) here is fits = absurd (by_parent closed.parent refl)
    where
      by_parent : (parent : Option ℕ) → closed.parent ≡ parent → ⊥
      by_parent None same = none.carried place disk writer closed here is same
      by_parent (Some parent) same =
          let refers : under writer parent writer closed.parent ≡ 1 =
          ap (under writer parent writer) same ∙ (ap (λ n. n * one_if_same parent parent) (one-same writer) ∙ ap (λ n. 1 * n) (one-same parent)) in
          omega (arith, refers, no_ref writer parent, task_part scene (references scene.setup writer parent) s place (Completer disk (Carries writer closed)) here is)
  task_home q place (Completer disk (Fails breach kept)) here is fits = refl
  -- the keeper holds no element
  task_home q place (Keeper keeping) here is fits = refl

  -- no bio waits for a rescuer, or at a disk
  rescue_home : (q dev : ℕ) → dev < scene.setup.count → sum_by ((elements_of_pool q).bio Rescued) (s.objects.rescue dev) ≡ 0
  rescue_home q dev lt = by_list (s.objects.rescue dev) refl
    where
      by_list : (bios : List (Item Pad)) → s.objects.rescue dev ≡ bios → sum_by ((elements_of_pool q).bio Rescued) bios ≡ 0
      by_list [] is = refl
      by_list (bio ∷ bios) is =
          let w = references scene.setup bio.bio.writer bio.bio.node in
          let same : sum_by (w.bio Rescued) (s.objects.rescue dev) ≡ sum_by (w.bio Rescued) (bio ∷ bios) = ap (sum_by (w.bio Rescued)) is in
          absurd (omega (
            arith,
            same,
            names_one bio,
            sum_by-cons (w.bio Rescued) bio bios,
            no_ref bio.bio.writer bio.bio.node,
            part_of (λ dev bios. sum_by (w.bio Rescued) bios) scene.setup.count s.objects.rescue dev lt,
          ))

  pending_home : (q dev : ℕ) → dev < scene.setup.count → sum_by ((elements_of_pool q).bio Pending) (s.objects.disk dev).pending ≡ 0
  pending_home q dev lt = by_list (s.objects.disk dev).pending refl
    where
      by_list : (bios : List (Item Pad)) → (s.objects.disk dev).pending ≡ bios → sum_by ((elements_of_pool q).bio Pending) bios ≡ 0
      by_list [] is = refl
      by_list (bio ∷ bios) is =
          let w = references scene.setup bio.bio.writer bio.bio.node in
          let same : sum_by (w.bio Pending) (s.objects.disk dev).pending ≡ sum_by (w.bio Pending) (bio ∷ bios) = ap (sum_by (w.bio Pending)) is in
          absurd (omega (
            arith,
            same,
            names_one bio,
            sum_by-cons (w.bio Pending) bio bios,
            no_ref bio.bio.writer bio.bio.node,
            part_of (λ dev (disk : DiskState). sum_by (w.bio Pending) disk.pending) scene.setup.count s.objects.disk dev lt,
          ))

  pub all_home : (q : ℕ) → (s.objects.pool q).facts.out ≡ 0
  all_home q =
      omega (
        arith,
        i.outs q,
        sum_none (task_weight (elements_of_pool q)) scene.tasks s.task (λ place lt. task_home q place (s.task place) lt refl (i.tasks place)),
        sum_none (λ dev bios. sum_by ((elements_of_pool q).bio Rescued) bios) scene.setup.count s.objects.rescue (rescue_home q),
        sum_none (λ dev (disk : DiskState). sum_by ((elements_of_pool q).bio Pending) disk.pending) scene.setup.count s.objects.disk (pending_home q),
        sum_none (book_weight (elements_of_pool q)) scene.books s.objects.book (λ writer lt. nodes_zero (elements_of_pool q) writer (s.objects.book writer) (none_open writer)),
      )
