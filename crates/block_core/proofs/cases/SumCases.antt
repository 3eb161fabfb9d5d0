-- What records say of each thing in a state is all that sums over its places say: that nothing strays from its write, and that a node waits for as
-- many ends as refer to it, while nothing refers to a place at which no node is open.
use Rattle.std.proofs.Common.{◌≡◌, ◌+◌, ◌*◌, ◌<◌, ℕ, Bool, true, false, List, [], ◌∷◌, length, Option, None, Some, inl, inr, refl, sym, ◌∙◌, ap, subst, arith}
use Rattle.std.specs.Prelude.{sum_by, All}
use Rattle.std.proofs.lemmas.List.Elements.{All-head, All-tail}
use Rattle.std.proofs.lemmas.List.Sums.{sum_by-cons}
use Rattle.stack_base.specs.declared.ids.DevId.{DevId}
use Rattle.bio_records.specs.declared.bio.Bio.{Bio}
use Rattle.bio_records.specs.declared.bio.Pad.{Pad}
use Rattle.bio_records.specs.Items.{Item}
use Rattle.bio_books.specs.Books.{Node, VectorItem, SlipItem, node_at, parent_of}
use Rattle.bio_books.specs.Drops.{Closed}
use Rattle.model_disks.specs.Disks.{DiskState}
use Rattle.run_machine.specs.Scene.{Scene}
use Rattle.run_machine.specs.Submissions.{Doing, Rests, Drives, Copies, Breaks, Submission}
use Rattle.run_machine.specs.Tasks.{Todo, Gathered, Carried, Empty, Brings, Carries, Fails, TaskState, Writer, Rescuer, Completer, Keeper}
use Rattle.run_machine.specs.Runs.{State}
use Rattle.block_core.specs.EachBio.{DoingHas, SubmissionHas, CarriedHas, TaskHas, EachBio, DoingCopies, TaskCopies, EachCopied}
use Rattle.block_core.specs.OfOneWrite.{AreOfOneWrite}
use Rattle.block_core.specs.Roles.{named, masters, children, legs_to_make, WaitsForParts, IsUnderOpen, HasRoles}
use Rattle.block_core.specs.Touches.{is_master}
use Rattle.block_core.specs.Weights.{Weight, Spot, Lined, Rescued, Pending, Brought, total_weight, one_if_same, weigh_option, doing_weight, submission_weight, carried_weight, task_weight, book_weight, under, legs_left}
use Rattle.block_core.proofs.moves.References.{references, awaited_ends}
use Rattle.block_core.proofs.moves.Sums.{same_or_not, one-other}
use Rattle.block_core.proofs.sound.Splitting.{total_sum}
use Rattle.block_core.proofs.sound.StoodFor.{refs_are}
use Rattle.block_core.proofs.sound.Strays.{parent_strays, strays, NoneStrays}
use Rattle.block_core.proofs.stuck.Idle.{sum_none}
use Rattle.block_core.proofs.moves.SubmissionWeights.{want_nil, ask_nil, taken_nil}

-- no part weighs anything: of bios at work of which this is so, of copied ones of which that is so, and of all others
record WeighsNothing (scene : Scene) (s : State) (P : Item Pad → Type 0) (C : Bio → ℕ → Type 0) (w : Weight) : Type 0 where
  todo : (writer : ℕ) (todos : List Todo) (taken : Gathered) → w.todo writer todos taken ≡ 0
  bio : (spot : Spot) (item : Item Pad) → P item → w.bio spot item ≡ 0
  copy : (bio : Bio) (master leg : ℕ) → C bio master → w.copy bio master leg ≡ 0
  hand : (item : Item Pad) → w.hand item ≡ 0
  vector : (vector : VectorItem) → w.vector vector ≡ 0
  slip : (slip : SlipItem) → w.slip slip ≡ 0
  node : (writer place : ℕ) (node : Node) → node_at (s.objects.book writer) place ≡ Some node → w.node writer place node ≡ 0
  closed : (place : ℕ) (disk : DevId) (writer : ℕ) (closed : Closed) → place < scene.tasks → s.task place ≡ Completer disk (Carries writer closed)
      → w.closed place writer closed ≡ 0

module _ (scene : Scene) (s : State) (P : Item Pad → Type 0) (C : Bio → ℕ → Type 0) (w : Weight) (nil : WeighsNothing scene s P C w) where
  list_nil : (spot : Spot) (items : List (Item Pad)) → All P items → sum_by (w.bio spot) items ≡ 0
  list_nil spot [] all = refl
  list_nil spot (item ∷ items) all =
      omega (arith, sum_by-cons (w.bio spot) item items, nil.bio spot item (All-head P item items all), list_nil spot items (All-tail P item items all))

  doing_nil : (limit : ℕ) (doing : Doing) → DoingHas P doing → DoingCopies C doing → doing_weight w limit doing ≡ 0
  doing_nil limit Rests has copied = refl
  doing_nil limit (Drives bio ask) has copied = omega (arith, nil.bio (Lined limit) bio has, ask_nil w nil.hand nil.slip ask)
  doing_nil limit (Copies bio master leg want) has copied = omega (arith, nil.copy bio master leg copied, want_nil w nil.hand want)
  doing_nil limit (Breaks breach kept) has copied = refl

  submission_nil : (limit : ℕ) (submission : Submission) → SubmissionHas P submission → DoingCopies C submission.doing → submission_weight w limit submission ≡ 0
  submission_nil limit submission has copied =
      omega (
        arith,
        doing_nil limit submission.doing has.0 copied,
        list_nil (Lined limit) submission.lists.list0 has.1,
        list_nil (Lined limit) submission.lists.list1 has.2,
      )

  carried_nil : (place : ℕ) (disk : DevId) (carried : Carried) → place < scene.tasks → s.task place ≡ Completer disk carried → CarriedHas P carried → carried_weight w place carried ≡ 0
  carried_nil place disk Empty lt is has = refl
  carried_nil place disk (Brings bio status) lt is has = nil.bio Brought bio has
  carried_nil place disk (Carries writer closed) lt is has = nil.closed place disk writer closed lt is
  carried_nil place disk (Fails breach kept) lt is has = refl

  task_nil : (place : ℕ) (x : TaskState) → place < scene.tasks → s.task place ≡ x → TaskHas P x → TaskCopies C x → task_weight w place x ≡ 0
  task_nil place (Writer number todos taken submission) lt is has copied =
      omega (arith, nil.todo number todos taken, taken_nil w nil.hand nil.vector taken, submission_nil 32 submission has copied)
  task_nil place (Rescuer dev submission) lt is has copied = submission_nil dev.0 submission has copied
  task_nil place (Completer disk carried) lt is has copied = carried_nil place disk carried lt is has
  task_nil place (Keeper keeping) lt is has copied = refl

  node_nil : (writer place : ℕ) (found : Option Node) → node_at (s.objects.book writer) place ≡ found → weigh_option (w.node writer place) found ≡ 0
  node_nil writer place None at = refl
  node_nil writer place (Some node) at = nil.node writer place node at

  total_nil : EachBio P scene s → EachCopied C scene s → total_weight scene w s ≡ 0
  total_nil bios copied =
      omega (
        arith,
        sum_none (task_weight w) scene.tasks s.task (λ place lt. task_nil place (s.task place) lt refl (bios.tasks place lt) (copied place lt)),
        sum_none (λ dev items. sum_by (w.bio Rescued) items) scene.setup.count s.objects.rescue (λ dev lt. list_nil Rescued (s.objects.rescue dev) (bios.rescued dev lt)),
        sum_none (λ dev (disk : DiskState). sum_by (w.bio Pending) disk.pending) scene.setup.count s.objects.disk
            (λ dev lt. list_nil Pending (s.objects.disk dev).pending (bios.pending dev lt)),
        sum_none (book_weight w) scene.books s.objects.book
            (λ writer lt. sum_none (λ place. weigh_option (w.node writer place)) (length (s.objects.book writer).nodes) (node_at (s.objects.book writer))
            (λ place within. node_nil writer place (node_at (s.objects.book writer) place) refl)),
      )

none_strays : (scene : Scene) (s : State) → AreOfOneWrite scene s → NoneStrays scene s
none_strays scene s a = (
  a.write_of,
  total_nil scene s (λ item. a.write_of item.bio.writer item.bio.node ≡ item.bio.write) (λ bio master. a.write_of bio.writer master ≡ bio.write) (strays a.write_of) (record {
    todo = λ writer todos taken. refl;
    bio = λ spot item same. omega (arith, same);
    copy = λ bio master leg same. omega (arith, same);
    hand = λ item. refl;
    vector = λ vector. refl;
    slip = λ slip. refl;
    node = λ writer place node at. omega (arith, a.opened writer place node at, up writer node.write (parent_of node.role) (λ parent is. a.under writer place node parent at is));
    closed = λ place disk writer closed lt is. up writer closed.write closed.parent (λ parent is_under. a.carried place disk writer closed parent lt is is_under);
  }) a.named a.copied,
)
  where
    up : (writer write : ℕ) (found : Option ℕ) → ((parent : ℕ) → found ≡ Some parent → a.write_of writer parent ≡ write) → parent_strays a.write_of writer found write ≡ 0
    up writer write None same = refl
    up writer write (Some parent) same = omega (arith, same parent refl)

all_parts : (is_master : Bool) (part : Option (Item Pad)) (count bios standing below legs : ℕ) → WaitsForParts is_master part count bios standing below legs
    → count ≡ bios + standing + below + legs
all_parts true part count bios standing below legs (none, alone, is) = omega (arith, none, alone, is)
all_parts false None count bios standing below legs (own, none, is) = omega (arith, none, is)
all_parts false (Some item) count bios standing below legs (own, none, is) = omega (arith, none, is)

module _ (scene : Scene) (s : State) (was_master : ℕ → Bool) (roles : HasRoles scene was_master s) (w k : ℕ) where
  -- what refers to an open node refers to another place than a vacant one
  elsewhere : node_at (s.objects.book w) k ≡ None → (writer place : ℕ) (is : Bool) → IsUnderOpen s writer place is → one_if_same writer w * one_if_same place k ≡ 0
  elsewhere none writer place is (above, at, kind) = elim (same_or_not writer w) [
    | inr ne ↦ let z = one-other writer w ne in omega (arith, ap (λ n. n * one_if_same place k) z)
    | inl e ↦ elim (same_or_not place k) [
      | inr ne ↦ let z = one-other place k ne in omega (arith, ap (λ n. one_if_same writer w * n) z)
      | inl also ↦
          let here : node_at (s.objects.book w) k ≡ Some above = subst (λ b. node_at (s.objects.book b) k ≡ Some above) e (subst (λ b. node_at (s.objects.book writer) b ≡ Some above) also at) in
          let clash : None ≡ Some above = sym none ∙ here in absurd cc
    ]
  ]

  none_refers : node_at (s.objects.book w) k ≡ None → total_weight scene (references scene.setup w k) s ≡ 0
  none_refers none =
      total_nil scene s (λ item. IsUnderOpen s item.bio.writer item.bio.node false) (λ bio master. IsUnderOpen s bio.writer master true) (references scene.setup w k) (record {
        todo = λ writer todos taken. refl;
        bio = λ spot item open_there. elsewhere none item.bio.writer item.bio.node false open_there;
        copy = λ bio master leg open_there. ap (λ n. n * legs_left scene.setup bio leg) (elsewhere none bio.writer master true open_there) ∙ omega arith;
        hand = λ item. refl;
        vector = λ vector. refl;
        slip = λ slip. refl;
        node = λ writer place node at. up writer (parent_of node.role) (λ parent is. let above = roles.parents writer place node parent at is in (above.0, above.1));
        closed = λ place disk writer closed lt is. up writer closed.parent (λ parent is_under. let above = roles.carried place disk writer closed parent lt is is_under in (above.0, above.1));
      }) roles.bios roles.copied
    where
      up : (writer : ℕ) (found : Option ℕ) → ((parent : ℕ) → found ≡ Some parent → (above : Node) × (node_at (s.objects.book writer) parent ≡ Some above)) → under w k writer found ≡ 0
      up writer None above = refl
      up writer (Some parent) above = let a = above parent refl in elsewhere none writer parent (is_master a.0.role) (a.0, a.1, refl)

  refs_are_counted : awaited_ends (node_at (s.objects.book w) k) ≡ total_weight scene (references scene.setup w k) s
  refs_are_counted = by_node (node_at (s.objects.book w) k) refl
    where
      by_node : (found : Option Node) → node_at (s.objects.book w) k ≡ found → awaited_ends (node_at (s.objects.book w) k) ≡ total_weight scene (references scene.setup w k) s
      by_node None at = ap awaited_ends at ∙ sym (none_refers at)
      by_node (Some node) at =
          let count : awaited_ends (node_at (s.objects.book w) k) ≡ node.count = ap awaited_ends at in
          omega (
            arith,
            count,
            total_sum (references scene.setup w k) _ _ _ _ (refs_are scene.setup was_master w k) scene s,
            all_parts (is_master node.role) node.held.bio node.count (total_weight scene (named w k) s) (total_weight scene (masters was_master w k) s) (total_weight scene (children was_master w k) s)
                (total_weight scene (legs_to_make scene.setup w k) s) (roles.waits w k node at),
          )
