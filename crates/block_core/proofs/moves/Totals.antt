-- What sums over all places are at least, and at most.
use Rattle.std.proofs.Common.{◌≡◌, ◌+◌, ◌*◌, ◌<◌, ◌≤◌, ℕ, zero, suc, List, [], ◌∷◌, length, Option, None, Some, inl, inr, refl, sym, ◌∙◌, ap, arith}
use Rattle.std.specs.Prelude.{sum_by}
use Rattle.std.proofs.lemmas.List.Sums.{sum_by-cons}
use Rattle.bio_records.specs.declared.bio.Bio.{Bio}
use Rattle.bio_records.specs.declared.bio.Pad.{Pad}
use Rattle.bio_records.specs.declared.tasks.TaskLists.{TaskLists}
use Rattle.bio_records.specs.Items.{Item}
use Rattle.bio_books.specs.declared.node.Role.{Role}
use Rattle.bio_books.specs.Books.{Node, BookState, VectorItem, SlipItem, node_at, parent_of}
use Rattle.bio_books.specs.Drops.{Closed}
use Rattle.model_disks.specs.Disks.{DiskState}
use Rattle.run_machine.specs.Scene.{Setup, Scene, tree_at}
use Rattle.run_machine.specs.Submissions.{Want, Takes, WantsPunt, Links, Driving, ToPush, ToCut, ToRecord, ToMaster, Doing, Rests, Drives, Copies, Breaks, Submission}
use Rattle.run_machine.specs.Tasks.{TaskState, Writer, Rescuer, Completer, Keeper, Todo, Gathered, NoBio, HasBio, HasBoth, Carried, Empty, Brings, Carries, Fails}
use Rattle.run_machine.specs.Runs.{State}
use Rattle.block_core.specs.Weights.{Weight, Spot, Lined, Rescued, Pending, Brought, total_weight, sum_at, one_if_same, weigh_option, want_weight, ask_weight, doing_weight, submission_weight, gathered_weight, carried_weight, task_weight, book_weight, under, legs_left, no_weight}
use Rattle.block_core.proofs.moves.References.{references}
use Rattle.block_core.specs.Rooms.{legs_need, room}
use Rattle.block_core.proofs.moves.Moves.{HasSubmission, limit_of}
use Rattle.block_core.proofs.moves.Sums.{same_or_not, one-same, one-other}
use Rattle.block_core.specs.Roles.{named}
use Rattle.block_core.proofs.unrefused.NodeNeeds.{legs_few}
use Rattle.layout_model.proofs.RangeSums.{sum_of_zero}

-- what stands at a place is a part of the sum
pub part_of : {X : Type 0} (w : ℕ → X → ℕ) (n : ℕ) (f : ℕ → X) (i : ℕ) → i < n → w i (f i) ≤ sum_at w n f
unfolding sum_at
part_of w zero f i lt = absurd (omega (arith, lt))
part_of w (suc n) f i lt = elim (same_or_not i n) [
  | inl e ↦ let same : w i (f i) ≡ w n (f n) = ap (λ j. w j (f j)) e in omega (arith, same)
  | inr ne ↦ omega (arith, part_of w n f i (omega (arith, lt, ne)))
]

-- a task and a book
pub task_part : (scene : Scene) (w : Weight) (s : State) (place : ℕ) (x : TaskState) → place < scene.tasks → s.task place ≡ x → task_weight w place x ≤ total_weight scene w s
task_part scene w s place x lt is =
    let same : task_weight w place (s.task place) ≡ task_weight w place x = ap (task_weight w place) is in
    omega (arith, same, part_of (task_weight w) scene.tasks s.task place lt)

pub both_parts : (scene : Scene) (w : Weight) (s : State) (place : ℕ) (x : TaskState) (writer : ℕ) → place < scene.tasks → s.task place ≡ x → writer < scene.books
    → task_weight w place x + book_weight w writer (s.objects.book writer) ≤ total_weight scene w s
both_parts scene w s place x writer lt is some =
    let same : task_weight w place (s.task place) ≡ task_weight w place x = ap (task_weight w place) is in
    omega (arith, same, part_of (task_weight w) scene.tasks s.task place lt, part_of (book_weight w) scene.books s.objects.book writer some)

pub submission_part : (w : Weight) (place : ℕ) (x : TaskState) (doing : Doing) (lists : TaskLists) → HasSubmission x doing lists
    → submission_weight w (limit_of x) (record { doing = doing; lists = lists }) ≤ task_weight w place x
submission_part w place (Writer number todo taken submission) doing lists h = let q = ap (submission_weight w 32) h in omega (arith, q)
submission_part w place (Rescuer dev submission) doing lists h = let q = ap (submission_weight w dev.0) h in omega (arith, q)
submission_part w place (Completer disk carried) doing lists h = absurd h
submission_part w place (Keeper keeping) doing lists h = absurd h

-- one weight is within three others
pub record IsWithin (u v x y : Weight) : Type 0 where
  pub todo : (writer : ℕ) (todos : List Todo) (taken : Gathered) → u.todo writer todos taken ≤ v.todo writer todos taken + x.todo writer todos taken + y.todo writer todos taken
  pub bio : (spot : Spot) (item : Item Pad) → u.bio spot item ≤ v.bio spot item + x.bio spot item + y.bio spot item
  pub copy : (bio : Bio) (master leg : ℕ) → u.copy bio master leg ≤ v.copy bio master leg + x.copy bio master leg + y.copy bio master leg
  pub hand : (item : Item Pad) → u.hand item ≤ v.hand item + x.hand item + y.hand item
  pub vector : (vector : VectorItem) → u.vector vector ≤ v.vector vector + x.vector vector + y.vector vector
  pub slip : (slip : SlipItem) → u.slip slip ≤ v.slip slip + x.slip slip + y.slip slip
  pub node : (writer place : ℕ) (node : Node) → u.node writer place node ≤ v.node writer place node + x.node writer place node + y.node writer place node
  pub closed : (task writer : ℕ) (closed : Closed) → u.closed task writer closed ≤ v.closed task writer closed + x.closed task writer closed + y.closed task writer closed

list_within : {X : Type 0} (f g h k : X → ℕ) (xs : List X) → ((x : X) → f x ≤ g x + h x + k x) → sum_by f xs ≤ sum_by g xs + sum_by h xs + sum_by k xs
list_within f g h k [] le = omega arith
list_within f g h k (x ∷ xs) le =
    omega (arith, sum_by-cons f x xs, sum_by-cons g x xs, sum_by-cons h x xs, sum_by-cons k x xs, le x, list_within f g h k xs le)

at_within : {X : Type 0} (f g h k : ℕ → X → ℕ) (n : ℕ) (m : ℕ → X) → ((i : ℕ) (x : X) → f i x ≤ g i x + h i x + k i x) → sum_at f n m ≤ sum_at g n m + sum_at h n m + sum_at k n m
unfolding sum_at
at_within f g h k zero m le = omega arith
at_within f g h k (suc n) m le = omega (arith, le n (m n), at_within f g h k n m le)

module _ (u v x y : Weight) (le : IsWithin u v x y) where
  want_within : (want : Want) → want_weight u want ≤ want_weight v want + want_weight x want + want_weight y want
  want_within (Takes waits) = omega arith
  want_within WantsPunt = omega arith
  want_within (Links hand) = le.hand hand

  ask_within : (ask : Driving) → ask_weight u ask ≤ ask_weight v ask + ask_weight x ask + ask_weight y ask
  ask_within ToPush = omega arith
  ask_within (ToCut want) = want_within want
  ask_within ToRecord = omega arith
  ask_within (ToMaster slip) = le.slip slip

  doing_within : (limit : ℕ) (doing : Doing) → doing_weight u limit doing ≤ doing_weight v limit doing + doing_weight x limit doing + doing_weight y limit doing
  doing_within limit Rests = omega arith
  doing_within limit (Drives bio ask) = omega (arith, le.bio (Lined limit) bio, ask_within ask)
  doing_within limit (Copies bio master leg want) = omega (arith, le.copy bio master leg, want_within want)
  doing_within limit (Breaks breach kept) = omega arith

  submission_within : (limit : ℕ) (submission : Submission) → submission_weight u limit submission ≤ submission_weight v limit submission + submission_weight x limit submission + submission_weight y limit submission
  submission_within limit submission =
      omega (
        arith,
        doing_within limit submission.doing,
        list_within (u.bio (Lined limit)) (v.bio (Lined limit)) (x.bio (Lined limit)) (y.bio (Lined limit)) submission.lists.list0 (le.bio (Lined limit)),
        list_within (u.bio (Lined limit)) (v.bio (Lined limit)) (x.bio (Lined limit)) (y.bio (Lined limit)) submission.lists.list1 (le.bio (Lined limit)),
      )

  taken_within : (taken : Gathered) → gathered_weight u taken ≤ gathered_weight v taken + gathered_weight x taken + gathered_weight y taken
  taken_within NoBio = omega arith
  taken_within (HasBio bio) = le.hand bio
  taken_within (HasBoth bio vector) = omega (arith, le.hand bio, le.vector vector)

  carried_within : (place : ℕ) (carried : Carried) → carried_weight u place carried ≤ carried_weight v place carried + carried_weight x place carried + carried_weight y place carried
  carried_within place Empty = omega arith
  carried_within place (Brings bio status) = le.bio Brought bio
  carried_within place (Carries writer closed) = le.closed place writer closed
  carried_within place (Fails breach kept) = omega arith

  task_within : (place : ℕ) (task : TaskState) → task_weight u place task ≤ task_weight v place task + task_weight x place task + task_weight y place task
  task_within place (Writer number todo taken submission) = omega (arith, le.todo number todo taken, taken_within taken, submission_within 32 submission)
  task_within place (Rescuer dev submission) = submission_within dev.0 submission
  task_within place (Completer disk carried) = carried_within place carried
  task_within place (Keeper keeping) = omega arith

  node_within : (writer place : ℕ) (node : Option Node)
      → weigh_option (u.node writer place) node ≤ weigh_option (v.node writer place) node + weigh_option (x.node writer place) node + weigh_option (y.node writer place) node
  node_within writer place None = omega arith
  node_within writer place (Some node) = le.node writer place node

  book_within : (writer : ℕ) (book : BookState) → book_weight u writer book ≤ book_weight v writer book + book_weight x writer book + book_weight y writer book
  book_within writer book =
      at_within (λ place. weigh_option (u.node writer place)) (λ place. weigh_option (v.node writer place)) (λ place. weigh_option (x.node writer place))
      (λ place. weigh_option (y.node writer place)) (length book.nodes) (node_at book) (λ place node. node_within writer place node)

  pub within : (scene : Scene) (s : State) → total_weight scene u s ≤ total_weight scene v s + total_weight scene x s + total_weight scene y s
  within scene s =
      omega (
        arith,
        at_within (task_weight u) (task_weight v) (task_weight x) (task_weight y) scene.tasks s.task task_within,
        at_within (λ dev bios. sum_by (u.bio Rescued) bios) (λ dev bios. sum_by (v.bio Rescued) bios) (λ dev bios. sum_by (x.bio Rescued) bios) (λ dev bios. sum_by (y.bio Rescued) bios)
            scene.setup.count s.objects.rescue (λ dev bios. list_within (u.bio Rescued) (v.bio Rescued) (x.bio Rescued) (y.bio Rescued) bios (le.bio Rescued)),
        at_within (λ dev (disk : DiskState). sum_by (u.bio Pending) disk.pending) (λ dev (disk : DiskState). sum_by (v.bio Pending) disk.pending)
            (λ dev (disk : DiskState). sum_by (x.bio Pending) disk.pending) (λ dev (disk : DiskState). sum_by (y.bio Pending) disk.pending) scene.setup.count s.objects.disk
            (λ dev disk. list_within (u.bio Pending) (v.bio Pending) (x.bio Pending) (y.bio Pending) disk.pending (le.bio Pending)),
        at_within (book_weight u) (book_weight v) (book_weight x) (book_weight y) scene.books s.objects.book book_within,
      )

-- closed nodes that completers carry
abbrev pub carrying : Weight
carrying = record no_weight { closed = λ task writer closed. 1 }

nothing_at : {X : Type 0} (w : ℕ → X → ℕ) (n : ℕ) (f : ℕ → X) → ((i : ℕ) (x : X) → w i x ≡ 0) → sum_at w n f ≡ 0
unfolding sum_at
nothing_at w zero f none = refl
nothing_at w (suc n) f none = omega (arith, nothing_at w n f none, none n (f n))

submission_carries : (limit : ℕ) (submission : Submission) → submission_weight carrying limit submission ≡ 0
submission_carries limit submission = omega (arith, by_doing submission.doing, sum_of_zero submission.lists.list0, sum_of_zero submission.lists.list1)
  where
    by_want : (want : Want) → want_weight carrying want ≡ 0
    by_want (Takes waits) = refl
    by_want WantsPunt = refl
    by_want (Links hand) = refl

    by_doing : (doing : Doing) → doing_weight carrying limit doing ≡ 0
    by_doing Rests = refl
    by_doing (Drives bio ToPush) = refl
    by_doing (Drives bio (ToCut want)) = omega (arith, by_want want)
    by_doing (Drives bio ToRecord) = refl
    by_doing (Drives bio (ToMaster slip)) = refl
    by_doing (Copies bio master leg want) = omega (arith, by_want want)
    by_doing (Breaks breach kept) = refl

task_carries : (place : ℕ) (task : TaskState) → task_weight carrying place task ≤ 1
task_carries place (Writer number todo taken submission) = omega (arith, by_taken taken, submission_carries 32 submission)
  where
    by_taken : (taken : Gathered) → gathered_weight carrying taken ≡ 0
    by_taken NoBio = refl
    by_taken (HasBio bio) = refl
    by_taken (HasBoth bio vector) = refl
task_carries place (Rescuer dev submission) = omega (arith, submission_carries dev.0 submission)
task_carries place (Completer disk Empty) = omega arith
task_carries place (Completer disk (Brings bio status)) = omega arith
task_carries place (Completer disk (Carries writer closed)) = omega arith
task_carries place (Completer disk (Fails breach kept)) = omega arith
task_carries place (Keeper keeping) = omega arith

one_each : {X : Type 0} (w : ℕ → X → ℕ) (n : ℕ) (f : ℕ → X) → ((i : ℕ) (x : X) → w i x ≤ 1) → sum_at w n f ≤ n
unfolding sum_at
one_each w zero f few = omega arith
one_each w (suc n) f few = omega (arith, one_each w n f few, few n (f n))

-- no more nodes are carried than there are tasks
pub carried_few : (scene : Scene) (s : State) → total_weight scene carrying s ≤ scene.tasks
carried_few scene s =
    omega (
      arith,
      one_each (task_weight carrying) scene.tasks s.task task_carries,
      nothing_at (λ dev bios. sum_by (carrying.bio Rescued) bios) scene.setup.count s.objects.rescue (λ dev bios. sum_of_zero bios),
      nothing_at (λ dev (disk : DiskState). sum_by (carrying.bio Pending) disk.pending) scene.setup.count s.objects.disk (λ dev disk. sum_of_zero disk.pending),
      nothing_at (book_weight carrying) scene.books s.objects.book
          (λ writer book. nothing_at (λ place. weigh_option (carrying.node writer place)) (length book.nodes) (node_at book) (λ place node. by_node writer place node)),
    )
  where
    by_node : (writer place : ℕ) (node : Option Node) → weigh_option (carrying.node writer place) node ≡ 0
    by_node writer place None = refl
    by_node writer place (Some node) = refl

-- a part of it is no more
pub some_of : (i j n : ℕ) → one_if_same i j * n ≤ n
some_of i j n = elim (same_or_not i j) [
  | inl e ↦ omega (arith, ap (λ k. k * n) (ap (λ k. one_if_same i k) (sym e) ∙ one-same i))
  | inr ne ↦ omega (arith, ap (λ k. k * n) (one-other i j ne))
]

pub more_of : (i j m n : ℕ) → m ≤ n → one_if_same i j * m ≤ one_if_same i j * n
more_of i j m n le = elim (same_or_not i j) [
  | inl e ↦ let is = ap (λ k. one_if_same i k) (sym e) ∙ one-same i in omega (arith, le, ap (λ k. k * m) is, ap (λ k. k * n) is)
  | inr ne ↦ let is = one-other i j ne in omega (arith, ap (λ k. k * m) is, ap (λ k. k * n) is)
]

-- what refers to a node is the bio that names it, what opened or will open a node in the book, or a closed node that is carried
pub refs_within : (setup : Setup) (w k : ℕ) → IsWithin (references setup w k) (named w k) (room setup w) carrying
refs_within setup w k = record {
  todo = λ writer todos taken. omega arith;
  bio = λ spot item. omega arith;
  copy = λ bio master leg.
      let few = legs_few (tree_at setup bio.dev) bio.range leg in
      let part = some_of master k (legs_left setup bio leg) in
      let all = more_of bio.writer w (one_if_same master k * legs_left setup bio leg) (legs_need setup bio leg) (omega (arith, few, part)) in
      omega (arith, all);
  hand = λ item. omega arith;
  vector = λ vector. omega arith;
  slip = λ slip. omega arith;
  node = λ writer place node. by_parent writer node.role;
  closed = λ task writer closed. by_closed writer closed.parent;
}
  where
    by_some : (writer : ℕ) (parent : Option ℕ) → under w k writer parent ≤ one_if_same writer w
    by_some writer None = omega arith
    by_some writer (Some parent) = let all = more_of writer w (one_if_same parent k) 1 (let few = some_of parent k 1 in omega (arith, few)) in omega (arith, all)

    by_parent : (writer : ℕ) (role : Role) → under w k writer (parent_of role) ≤ 0 + one_if_same writer w + 0
    by_parent writer role = omega (arith, by_some writer (parent_of role))

    by_closed : (writer : ℕ) (parent : Option ℕ) → under w k writer parent ≤ 0 + 0 + 1
    by_closed writer parent = let few = some_of writer w 1 in omega (arith, few, by_some writer parent)
