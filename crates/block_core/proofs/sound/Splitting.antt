-- A weight that is the sum of four others, and a weight that is another one but for closed nodes: what that makes of sums over all places.
use Rattle.std.proofs.Common.{◌≡◌, ◌≢◌, ◌+◌, ◌<◌, ℕ, zero, suc, List, [], ◌∷◌, length, Option, None, Some, inl, inr, refl, sym, ap, arith}
use Rattle.std.specs.Prelude.{sum_by}
use Rattle.std.proofs.lemmas.List.Sums.{sum_by-cons}
use Rattle.bio_records.specs.declared.bio.Bio.{Bio}
use Rattle.bio_records.specs.declared.bio.Pad.{Pad}
use Rattle.bio_records.specs.Items.{Item}
use Rattle.bio_books.specs.Books.{Node, BookState, VectorItem, SlipItem, node_at}
use Rattle.bio_books.specs.Drops.{Closed}
use Rattle.model_disks.specs.Disks.{DiskState}
use Rattle.run_machine.specs.Scene.{Scene}
use Rattle.run_machine.specs.Submissions.{Want, Takes, WantsPunt, Links, Driving, ToPush, ToCut, ToRecord, ToMaster, Doing, Rests, Drives, Copies, Breaks, Submission}
use Rattle.run_machine.specs.Tasks.{TaskState, Writer, Rescuer, Completer, Keeper, Todo, Gathered, NoBio, HasBio, HasBoth, Carried, Empty, Brings, Carries, Fails}
use Rattle.run_machine.specs.Runs.{State}
use Rattle.block_core.specs.Weights.{Weight, Spot, Lined, Rescued, Pending, Brought, total_weight, sum_at, weigh_option, want_weight, ask_weight, doing_weight, submission_weight, gathered_weight, carried_weight, task_weight, book_weight}
use Rattle.block_core.proofs.moves.Sums.{same_or_not}

pub record IsSumOf (u a b x y : Weight) : Type 0 where
  pub todo : (writer : ℕ) (todos : List Todo) (taken : Gathered)
      → u.todo writer todos taken ≡ a.todo writer todos taken + b.todo writer todos taken + x.todo writer todos taken + y.todo writer todos taken
  pub bio : (spot : Spot) (item : Item Pad) → u.bio spot item ≡ a.bio spot item + b.bio spot item + x.bio spot item + y.bio spot item
  pub copy : (bio : Bio) (master leg : ℕ) → u.copy bio master leg ≡ a.copy bio master leg + b.copy bio master leg + x.copy bio master leg + y.copy bio master leg
  pub hand : (item : Item Pad) → u.hand item ≡ a.hand item + b.hand item + x.hand item + y.hand item
  pub vector : (vector : VectorItem) → u.vector vector ≡ a.vector vector + b.vector vector + x.vector vector + y.vector vector
  pub slip : (slip : SlipItem) → u.slip slip ≡ a.slip slip + b.slip slip + x.slip slip + y.slip slip
  pub node : (writer place : ℕ) (node : Node) → u.node writer place node ≡ a.node writer place node + b.node writer place node + x.node writer place node + y.node writer place node
  pub closed : (task writer : ℕ) (closed : Closed)
      → u.closed task writer closed ≡ a.closed task writer closed + b.closed task writer closed + x.closed task writer closed + y.closed task writer closed

list_sum : {X : Type 0} (u a b x y : X → ℕ) (xs : List X) → ((z : X) → u z ≡ a z + b z + x z + y z) → sum_by u xs ≡ sum_by a xs + sum_by b xs + sum_by x xs + sum_by y xs
list_sum u a b x y [] is = refl
list_sum u a b x y (z ∷ xs) is =
    omega (arith, sum_by-cons u z xs, sum_by-cons a z xs, sum_by-cons b z xs, sum_by-cons x z xs, sum_by-cons y z xs, is z, list_sum u a b x y xs is)

at_sum : {X : Type 0} (u a b x y : ℕ → X → ℕ) (n : ℕ) (m : ℕ → X) → ((i : ℕ) (z : X) → u i z ≡ a i z + b i z + x i z + y i z)
    → sum_at u n m ≡ sum_at a n m + sum_at b n m + sum_at x n m + sum_at y n m
unfolding sum_at
at_sum u a b x y zero m is = refl
at_sum u a b x y (suc n) m is = omega (arith, is n (m n), at_sum u a b x y n m is)

module _ (u a b x y : Weight) (is : IsSumOf u a b x y) where
  want_sum : (want : Want) → want_weight u want ≡ want_weight a want + want_weight b want + want_weight x want + want_weight y want
  want_sum (Takes waits) = refl
  want_sum WantsPunt = refl
  want_sum (Links hand) = is.hand hand

  ask_sum : (ask : Driving) → ask_weight u ask ≡ ask_weight a ask + ask_weight b ask + ask_weight x ask + ask_weight y ask
  ask_sum ToPush = refl
  ask_sum (ToCut want) = want_sum want
  ask_sum ToRecord = refl
  ask_sum (ToMaster slip) = is.slip slip

  doing_sum : (limit : ℕ) (doing : Doing) → doing_weight u limit doing ≡ doing_weight a limit doing + doing_weight b limit doing + doing_weight x limit doing + doing_weight y limit doing
  doing_sum limit Rests = refl
  doing_sum limit (Drives bio ask) = omega (arith, is.bio (Lined limit) bio, ask_sum ask)
  doing_sum limit (Copies bio master leg want) = omega (arith, is.copy bio master leg, want_sum want)
  doing_sum limit (Breaks breach kept) = refl

  submission_sum : (limit : ℕ) (submission : Submission) → submission_weight u limit submission ≡ submission_weight a limit submission + submission_weight b limit submission + submission_weight x limit submission + submission_weight y limit submission
  submission_sum limit submission =
      let l = Lined limit in
      omega (
        arith,
        doing_sum limit submission.doing,
        list_sum (u.bio l) (a.bio l) (b.bio l) (x.bio l) (y.bio l) submission.lists.list0 (is.bio l),
        list_sum (u.bio l) (a.bio l) (b.bio l) (x.bio l) (y.bio l) submission.lists.list1 (is.bio l),
      )

  taken_sum : (taken : Gathered) → gathered_weight u taken ≡ gathered_weight a taken + gathered_weight b taken + gathered_weight x taken + gathered_weight y taken
  taken_sum NoBio = refl
  taken_sum (HasBio bio) = is.hand bio
  taken_sum (HasBoth bio vector) = omega (arith, is.hand bio, is.vector vector)

  carried_sum : (place : ℕ) (carried : Carried) → carried_weight u place carried ≡ carried_weight a place carried + carried_weight b place carried + carried_weight x place carried + carried_weight y place carried
  carried_sum place Empty = refl
  carried_sum place (Brings bio status) = is.bio Brought bio
  carried_sum place (Carries writer closed) = is.closed place writer closed
  carried_sum place (Fails breach kept) = refl

  task_sum : (place : ℕ) (task : TaskState) → task_weight u place task ≡ task_weight a place task + task_weight b place task + task_weight x place task + task_weight y place task
  task_sum place (Writer number todo taken submission) = omega (arith, is.todo number todo taken, taken_sum taken, submission_sum 32 submission)
  task_sum place (Rescuer dev submission) = submission_sum dev.0 submission
  task_sum place (Completer disk carried) = carried_sum place carried
  task_sum place (Keeper keeping) = refl

  node_sum : (writer place : ℕ) (node : Option Node)
      → weigh_option (u.node writer place) node
      ≡ weigh_option (a.node writer place) node + weigh_option (b.node writer place) node + weigh_option (x.node writer place) node + weigh_option (y.node writer place) node
  node_sum writer place None = refl
  node_sum writer place (Some node) = is.node writer place node

  book_sum : (writer : ℕ) (book : BookState) → book_weight u writer book ≡ book_weight a writer book + book_weight b writer book + book_weight x writer book + book_weight y writer book
  book_sum writer book =
      at_sum (λ place. weigh_option (u.node writer place)) (λ place. weigh_option (a.node writer place)) (λ place. weigh_option (b.node writer place))
      (λ place. weigh_option (x.node writer place)) (λ place. weigh_option (y.node writer place)) (length book.nodes) (node_at book) (node_sum writer)

  pub total_sum : (scene : Scene) (s : State) → total_weight scene u s ≡ total_weight scene a s + total_weight scene b s + total_weight scene x s + total_weight scene y s
  total_sum scene s =
      omega (
        arith,
        at_sum (task_weight u) (task_weight a) (task_weight b) (task_weight x) (task_weight y) scene.tasks s.task task_sum,
        at_sum (λ dev bios. sum_by (u.bio Rescued) bios) (λ dev bios. sum_by (a.bio Rescued) bios) (λ dev bios. sum_by (b.bio Rescued) bios)
            (λ dev bios. sum_by (x.bio Rescued) bios) (λ dev bios. sum_by (y.bio Rescued) bios) scene.setup.count s.objects.rescue
            (λ dev bios. list_sum (u.bio Rescued) (a.bio Rescued) (b.bio Rescued) (x.bio Rescued) (y.bio Rescued) bios (is.bio Rescued)),
        at_sum (λ dev (disk : DiskState). sum_by (u.bio Pending) disk.pending) (λ dev (disk : DiskState). sum_by (a.bio Pending) disk.pending)
            (λ dev (disk : DiskState). sum_by (b.bio Pending) disk.pending) (λ dev (disk : DiskState). sum_by (x.bio Pending) disk.pending)
            (λ dev (disk : DiskState). sum_by (y.bio Pending) disk.pending) scene.setup.count s.objects.disk
            (λ dev disk. list_sum (u.bio Pending) (a.bio Pending) (b.bio Pending) (x.bio Pending) (y.bio Pending) disk.pending (is.bio Pending)),
        at_sum (book_weight u) (book_weight a) (book_weight b) (book_weight x) (book_weight y) scene.books s.objects.book book_sum,
      )

-- a weight that is another one, but for what tasks carry of closed nodes
pub record IsSameButClosed (u v : Weight) : Type 0 where
  pub todo : u.todo ≡ v.todo
  pub bio : u.bio ≡ v.bio
  pub copy : u.copy ≡ v.copy
  pub hand : u.hand ≡ v.hand
  pub vector : u.vector ≡ v.vector
  pub slip : u.slip ≡ v.slip
  pub node : u.node ≡ v.node

at_but : {X : Type 0} (u v : ℕ → X → ℕ) (n : ℕ) (f : ℕ → X) (place : ℕ) → ((i : ℕ) → i ≢ place → u i (f i) ≡ v i (f i)) → n < place + 1 → sum_at u n f ≡ sum_at v n f
unfolding sum_at
at_but u v zero f place same le = refl
at_but u v (suc n) f place same le = omega (arith, same n (λ e. omega (arith, e, le)), at_but u v n f place same (omega (arith, le)))

at_one : {X : Type 0} (u v : ℕ → X → ℕ) (n : ℕ) (f : ℕ → X) (place : ℕ) → ((i : ℕ) → i ≢ place → u i (f i) ≡ v i (f i)) → place < n
    → sum_at u n f + v place (f place) ≡ sum_at v n f + u place (f place)
unfolding sum_at
at_one u v zero f place same lt = absurd (omega (arith, lt))
at_one u v (suc n) f place same lt = elim (same_or_not place n) [
  | inl e ↦
      let a : u place (f place) ≡ u n (f n) = ap (λ i. u i (f i)) e in
      let b : v place (f place) ≡ v n (f n) = ap (λ i. v i (f i)) e in
      omega (arith, a, b, at_but u v n f place same (omega (arith, e)))
  | inr ne ↦ omega (arith, same n (λ e. ne (sym e)), at_one u v n f place same (omega (arith, lt, ne)))
]

module _ (u v : Weight) (same : IsSameButClosed u v) where
  want_but : (want : Want) → want_weight u want ≡ want_weight v want
  want_but (Takes waits) = refl
  want_but WantsPunt = refl
  want_but (Links hand) = ap (λ f. f hand) same.hand

  ask_but : (ask : Driving) → ask_weight u ask ≡ ask_weight v ask
  ask_but ToPush = refl
  ask_but (ToCut want) = want_but want
  ask_but ToRecord = refl
  ask_but (ToMaster slip) = ap (λ f. f slip) same.slip

  doing_but : (limit : ℕ) (doing : Doing) → doing_weight u limit doing ≡ doing_weight v limit doing
  doing_but limit Rests = refl
  doing_but limit (Drives bio ask) = omega (arith, ap (λ f. f (Lined limit) bio) same.bio, ask_but ask)
  doing_but limit (Copies bio master leg want) = omega (arith, ap (λ f. f bio master leg) same.copy, want_but want)
  doing_but limit (Breaks breach kept) = refl

  submission_but : (limit : ℕ) (submission : Submission) → submission_weight u limit submission ≡ submission_weight v limit submission
  submission_but limit submission =
      omega (arith, doing_but limit submission.doing, ap (λ f. sum_by (f (Lined limit)) submission.lists.list0) same.bio, ap (λ f. sum_by (f (Lined limit)) submission.lists.list1) same.bio)

  taken_but : (taken : Gathered) → gathered_weight u taken ≡ gathered_weight v taken
  taken_but NoBio = refl
  taken_but (HasBio bio) = ap (λ f. f bio) same.hand
  taken_but (HasBoth bio vector) = omega (arith, ap (λ f. f bio) same.hand, ap (λ f. f vector) same.vector)

  task_but : (place : ℕ) (task : TaskState) → ((writer : ℕ) (closed : Closed) → u.closed place writer closed ≡ v.closed place writer closed)
      → task_weight u place task ≡ task_weight v place task
  task_but place (Writer number todo taken submission) is = omega (arith, ap (λ f. f number todo taken) same.todo, taken_but taken, submission_but 32 submission)
  task_but place (Rescuer dev submission) is = submission_but dev.0 submission
  task_but place (Completer disk Empty) is = refl
  task_but place (Completer disk (Brings bio status)) is = ap (λ f. f Brought bio) same.bio
  task_but place (Completer disk (Carries writer closed)) is = is writer closed
  task_but place (Completer disk (Fails breach kept)) is = refl
  task_but place (Keeper keeping) is = refl

  -- where they differ at one task alone
  pub total_but : (scene : Scene) (s : State) (place : ℕ) → place < scene.tasks
      → ((i : ℕ) → i ≢ place → (writer : ℕ) (closed : Closed) → u.closed i writer closed ≡ v.closed i writer closed)
      → total_weight scene u s + task_weight v place (s.task place) ≡ total_weight scene v s + task_weight u place (s.task place)
  total_but scene s place lt is =
      omega (
        arith,
        at_one (task_weight u) (task_weight v) scene.tasks s.task place (λ i ne. task_but i (s.task i) (is i ne)) lt,
        ap (λ f. sum_at (λ dev bios. sum_by (f Rescued) bios) scene.setup.count s.objects.rescue) same.bio,
        ap (λ f. sum_at (λ dev (disk : DiskState). sum_by (f Pending) disk.pending) scene.setup.count s.objects.disk) same.bio,
        ap (λ f. sum_at (λ writer (book : BookState). sum_at (λ place. weigh_option (f writer place)) (length book.nodes) (node_at book)) scene.books s.objects.book) same.node,
      )

  -- and where they differ nowhere
  pub total_like : (scene : Scene) (s : State) → ((i writer : ℕ) (closed : Closed) → u.closed i writer closed ≡ v.closed i writer closed) → total_weight scene u s ≡ total_weight scene v s
  total_like scene s is =
      omega (
        arith,
        at_but (task_weight u) (task_weight v) scene.tasks s.task scene.tasks (λ i ne. task_but i (s.task i) (is i)) (omega arith),
        ap (λ f. sum_at (λ dev bios. sum_by (f Rescued) bios) scene.setup.count s.objects.rescue) same.bio,
        ap (λ f. sum_at (λ dev (disk : DiskState). sum_by (f Pending) disk.pending) scene.setup.count s.objects.disk) same.bio,
        ap (λ f. sum_at (λ writer (book : BookState). sum_at (λ place. weigh_option (f writer place)) (length book.nodes) (node_at book)) scene.books s.objects.book) same.node,
      )
