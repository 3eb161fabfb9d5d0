-- Events keep list 0 of a task that copies a bio full of legs of its master alone, and the set of that bio above its device.
use Rattle.std.proofs.Common.{◌≡◌, ◌≢◌, ◌+◌, ◌*◌, ◌<◌, ◌≤◌, ◌==◌, ◌⊎◌, if◌then◌else◌, ℕ, Bool, true, false, List, [], ◌∷◌, length, Option, None, Some, inl, inr, refl, sym, ◌∙◌, ap, subst, arith}
use Rattle.std.specs.Prelude.{sum_by}
use Rattle.std.proofs.lemmas.List.{get_or-set_same, get_or-set_other}
use Rattle.std.proofs.lemmas.List.Sums.{sum_by-cons}
use Rattle.stack_base.specs.PoolId.{pool_number}
use Rattle.stack_base.specs.Tree.{Tree, Leaf, Split, Mirrored}
use Rattle.stack_base.specs.declared.ids.SetId.TheVariants.{Of}
use Rattle.stack_base.proofs.ListLemmas.{Each}
use Rattle.bio_records.specs.declared.bio.Bio.{Bio}
use Rattle.bio_records.specs.declared.bio.Pad.{Pad}
use Rattle.bio_records.specs.declared.tasks.TaskLists.{TaskLists}
use Rattle.bio_records.specs.Items.{Item}
use Rattle.bio_records.specs.Sorting.{is_of_other}
use Rattle.bio_lists.specs.Submission.{submitted, order}
use Rattle.bio_lists.specs.Punt.{unpunted}
use Rattle.bioset_pools.specs.Sets.{bios_of, waits_first}
use Rattle.bio_books.specs.Books.{Node, BookState, node_at, with_node, top_node, child_node, master_node, leg_node, with_kept_part, raised, lowered, told}
use Rattle.bio_books.specs.Links.{IsVacant}
use Rattle.run_machine.specs.Maps.{upd}
use Rattle.run_machine.specs.Scene.{Setup, Scene, tree_at}
use Rattle.run_machine.specs.Submissions.{Want, Takes, WantsPunt, Links, ToPush, ToCut, ToRecord, ToMaster, Doing, Rests, Drives, Copies, Breaks, Submission, settled, goes_on, copies, asks_at, first_length, landed, legs_of, leg_at}
use Rattle.run_machine.specs.Tasks.{TaskState, Writer, Rescuer, Completer, Keeper}
use Rattle.run_machine.specs.Runs.{State}
use Rattle.block_core.specs.Weights.{Lined, total_weight, names_node}
use Rattle.block_core.proofs.moves.References.{references, awaited_ends}
use Rattle.block_core.specs.Orders.{IsLegOf}
use Rattle.block_core.proofs.moves.Moves.{Move, place_of, Can, after, limit_of, with_submission, HasSubmission, Wants, with_want, filled_of, vector_of, cut_lists}
use Rattle.block_core.proofs.moves.Moves as moves
use Rattle.block_core.proofs.moves.Sums.{upd-same, upd-other, same_or_not, within_book}
use Rattle.block_core.proofs.sound.Invariant.{TaskIsSound, Invariant}
use Rattle.block_core.proofs.moves.Deltas.{other_place, vacant_at}
use Rattle.block_core.proofs.sound.TaskSubmissions.{submission_fits}
use Rattle.block_core.proofs.sound.Orders.{Placed, each_map, each_less, each_append}
use Rattle.block_core.proofs.sound.OrdersKept.{placed_at}
use Rattle.block_core.proofs.moves.Totals.{task_part, submission_part}
use Rattle.block_core.proofs.stuck.Idle.{names_one}

-- what stands at a place of a book becomes of a node: it stays open with its role, or closes
abbrev pub StaysOrCloses : Option Node → Node → Type 0
StaysOrCloses found node = ((new : Node) × (found ≡ Some new) × (new.role ≡ node.role)) ⊎ (found ≡ None)

-- at a place of a book of which one place changes
in_book : (book : BookState) (key : ℕ) (v : Option Node) (k : ℕ) (node : Node) → key < length book.nodes → ((new : Node) → node_at book key ≡ Some new → StaysOrCloses v new)
    → node_at book k ≡ Some node → StaysOrCloses (node_at (with_node book key v) k) node
in_book book key v k node lt here at = elim (same_or_not k key) [
  | inr ne ↦ inl (node, get_or-set_other book.nodes key k v None ne ∙ at, refl)
  | inl same ↦
      let own : node_at book key ≡ Some node = subst (λ y. node_at book y ≡ Some node) same at in
      let is : node_at (with_node book key v) k ≡ v = ap (node_at (with_node book key v)) same ∙ get_or-set_same book.nodes key v None lt in
      subst (λ x. StaysOrCloses x node) (sym is) (here node own)
]

-- a node is made
in_made : (book : BookState) (key : ℕ) (new : Node) (k : ℕ) (node : Node) → IsVacant book key → node_at book k ≡ Some node → StaysOrCloses (node_at (with_node book key (Some new)) k) node
in_made book key new k node v at =
    let a = vacant_at book key v in
    in_book book key (Some new) k node a.1 (λ other is. absurd (let e : None ≡ Some other = sym a.0 ∙ is in cc)) at

-- and the one above it becomes another
in_two : (book : BookState) (key parent : ℕ) (new above other : Node) (k : ℕ) (node : Node) → IsVacant book key → node_at book parent ≡ Some above → other.role ≡ above.role
    → node_at book k ≡ Some node → StaysOrCloses (node_at (with_node (with_node book key (Some new)) parent (Some other)) k) node
in_two book key parent new above other k node v up role at =
    let second = with_node book key (Some new) in
    let a = vacant_at book key v in
    let ne : parent ≢ key = λ q. let x : node_at book parent ≡ node_at book key = ap (node_at book) q in let y : None ≡ Some above = sym a.0 ∙ sym x ∙ up in cc in
    let also : node_at second parent ≡ Some above = get_or-set_other book.nodes key parent (Some new) None ne ∙ up in
    elim (same_or_not k key) [
      | inl same ↦ absurd (let e : None ≡ Some node = sym a.0 ∙ ap (node_at book) (sym same) ∙ at in cc)
      | inr apart ↦
          in_book second parent (Some other) k node (within_book second parent above also)
          (λ found is. inl (other, refl, role ∙ (let e : Some above ≡ Some found = sym also ∙ is in let q : above ≡ found = cc in ap (λ (n : Node). n.role) q)))
          (get_or-set_other book.nodes key k (Some new) None apart ∙ at)
    ]

-- one book changes
in_books : (f : ℕ → BookState) (writer : ℕ) (book : BookState) (w k : ℕ) (node : Node) → (node_at (f writer) k ≡ Some node → StaysOrCloses (node_at book k) node)
    → node_at (f w) k ≡ Some node → StaysOrCloses (node_at (upd f writer book w) k) node
in_books f writer book w k node here at = elim (same_or_not w writer) [
  | inr ne ↦ inl (node, ap (λ b. node_at b k) (upd-other f writer book w ne) ∙ at, refl)
  | inl same ↦
      let is : upd f writer book w ≡ book = ap (upd f writer book) same ∙ upd-same f writer book in
      subst (λ x. StaysOrCloses x node) (sym (ap (λ b. node_at b k) is)) (here (subst (λ x. node_at (f x) k ≡ Some node) same at))
]

-- where a node is made, each other one stays
made_stays : (f : ℕ → BookState) (writer key : ℕ) (new : Node) (w k : ℕ) (node : Node) → IsVacant (f writer) key → node_at (f w) k ≡ Some node
    → node_at (upd f writer (with_node (f writer) key (Some new)) w) k ≡ Some node
made_stays f writer key new w k node v at = elim (same_or_not w writer) [
  | inr ne ↦ ap (λ b. node_at b k) (upd-other f writer (with_node (f writer) key (Some new)) w ne) ∙ at
  | inl same ↦
      let book = with_node (f writer) key (Some new) in
      let is : upd f writer book w ≡ book = ap (upd f writer book) same ∙ upd-same f writer book in
      let own : node_at (f writer) k ≡ Some node = subst (λ x. node_at (f x) k ≡ Some node) same at in
      let ne : k ≢ key = other_place (f writer) key k node v own in
      ap (λ b. node_at b k) is ∙ get_or-set_other (f writer).nodes key k (Some new) None ne ∙ own
]

module _ (scene : Scene) (s : State) where
  stays : (w k : ℕ) (node : Node) → node_at (s.objects.book w) k ≡ Some node → StaysOrCloses (node_at (s.objects.book w) k) node
  stays w k node at = inl (node, at, refl)

  -- an open node keeps its role as long as it is open
  pub stays_or_closes : (m : Move) → Can scene s m → (w k : ℕ) (node : Node) → node_at (s.objects.book w) k ≡ Some node
      → StaysOrCloses (node_at ((after scene s m).objects.book w) k) node
  -- links of writes: the new node is made at a vacant place
  stays_or_closes (moves.Begins place writer todo later item vector key) c w k node at =
      in_books s.objects.book writer _ w k node (in_made (s.objects.book writer) key (top_node todo.number (vector_of todo vector)) k node c.3) at
  -- links of pieces and of masters: the new node is made at a vacant place, and the node above it keeps its role
  stays_or_closes (moves.Chained place x bio lists hand number kind sizes members key above) c w k node at =
      in_books s.objects.book bio.bio.writer _ w k node
      (in_two (s.objects.book bio.bio.writer) key bio.bio.node (child_node above.write bio.bio.node) above (raised above) k node c.6 c.5 refl) at
  stays_or_closes (moves.Mastered place x bio lists slip key above) c w k node at =
      in_books s.objects.book bio.bio.writer _ w k node
      (in_two (s.objects.book bio.bio.writer) key bio.bio.node (master_node above.write bio.bio.node slip (legs_of (tree_at scene.setup bio.bio.dev))) above (with_kept_part bio above) k node c.5 c.4
      refl) at
  -- links of legs: the new node is made at a vacant place
  stays_or_closes (moves.Legged place x bio lists master leg hand key above) c w k node at =
      in_books s.objects.book bio.writer _ w k node (in_made (s.objects.book bio.writer) key (leg_node above.write master) k node c.5) at
  -- drops that leave a node open: it keeps its role
  stays_or_closes (moves.Told place disk carried writer key status part old) c w k node at =
      in_books s.objects.book writer _ w k node
      (in_book (s.objects.book writer) key (Some (lowered (told old status part))) k node (within_book (s.objects.book writer) key old c.4)
      (λ found is. inl (lowered (told old status part), refl, (let e : Some old ≡ Some found = sym c.4 ∙ is in let q : old ≡ found = cc in ap (λ (n : Node). n.role) q)))) at
  -- drops that close a node: that node closes, and the others stay open
  stays_or_closes (moves.Closes place disk carried writer key status part old) c w k node at =
      in_books s.objects.book writer _ w k node
      (in_book (s.objects.book writer) key None k node (within_book (s.objects.book writer) key old c.4) (λ found is. inr refl)) at
  -- all others: no book changes
  stays_or_closes _ c w k node at = stays w k node at

-- of a task that copies a bio: list 0 has legs of the master, and the bio's set is above its device
abbrev pub HasLegs : State → Doing → TaskLists → Type 0
HasLegs s (Copies bio master leg want) lists = Each (IsLegOf s bio.writer master) lists.list0 × (2 * bio.dev.0 + 1 < pool_number (bios_of bio.set))
HasLegs s Rests lists = Unit {0}
HasLegs s (Drives bio ask) lists = Unit {0}
HasLegs s (Breaks breach kept) lists = Unit {0}

abbrev pub TaskHasLegs : State → TaskState → Type 0
TaskHasLegs s (Writer number todo taken submission) = HasLegs s submission.doing submission.lists
TaskHasLegs s (Rescuer dev submission) = HasLegs s submission.doing submission.lists
TaskHasLegs s (Completer disk carried) = Unit {0}
TaskHasLegs s (Keeper keeping) = Unit {0}

submission_has : (s : State) (x : TaskState) (doing : Doing) (lists : TaskLists) → TaskHasLegs s x → HasSubmission x doing lists → HasLegs s doing lists
submission_has s (Writer number todo taken submission) doing lists t h = subst (λ (l : Submission). HasLegs s l.doing l.lists) h t
submission_has s (Rescuer dev submission) doing lists t h = subst (λ (l : Submission). HasLegs s l.doing l.lists) h t
submission_has s (Completer disk carried) doing lists t h = absurd h
submission_has s (Keeper keeping) doing lists t h = absurd h

relined : (s : State) (x : TaskState) (new : Submission) → HasLegs s new.doing new.lists → TaskHasLegs s (with_submission x new)
relined s (Writer number todo taken submission) new n = n
relined s (Rescuer dev submission) new n = n
relined s (Completer disk carried) new n = tt
relined s (Keeper keeping) new n = tt

-- a submission that begins again copies nothing yet
asks_none : (s : State) (setup : Setup) (lists : TaskLists) (item : Item Pad) (t : Tree) → HasLegs s (asks_at setup lists item t) lists
asks_none s setup lists item (Leaf number sectors) = tt
asks_none s setup lists item (Mirrored number sizes members) = tt
asks_none s setup lists item (Split number kind sizes members) = tt

settled_none : (s : State) (setup : Setup) (items : List (Item Pad)) → HasLegs s (settled setup items).doing (settled setup items).lists
settled_none s setup [] = tt
settled_none s setup (item ∷ waiting) =
    let at : Bio = landed (tree_at setup item.bio.dev) item.bio in
    asks_none s setup (record { list0 = []; list1 = waiting }) (record item { bio = at }) (tree_at setup at.dev)

-- the next leg
next_has : (s : State) (setup : Setup) (lists : TaskLists) (bio : Bio) (master leg : ℕ) → Each (IsLegOf s bio.writer master) lists.list0
    → (2 * bio.dev.0 + 1 < pool_number (bios_of bio.set)) → HasLegs s (copies setup lists bio master leg).doing (copies setup lists bio master leg).lists
next_has s setup lists bio master leg legs up = by_test (leg == legs_of (tree_at setup bio.dev))
  where
    by_test : (v : Bool) → let submission : Submission = if v then goes_on setup bio.dev lists else record { doing = Copies bio master leg (Takes (waits_first (setup.rescuer bio.dev.0) lists)); lists = lists } in
        HasLegs s submission.doing submission.lists
    by_test true = settled_none s setup (order bio.dev lists)
    by_test false = (legs, up)

-- what is wanted does not matter
wants_has : (s : State) (doing : Doing) (dev : _) (old new : Want) (lists more : TaskLists) → Wants doing dev old
    → ((writer master : ℕ) → Each (IsLegOf s writer master) lists.list0 → Each (IsLegOf s writer master) more.list0) → HasLegs s doing lists → HasLegs s (with_want doing new) more
wants_has s (Drives bio (ToCut has)) dev old new lists more h less d = tt
wants_has s (Copies bio master leg has) dev old new lists more h less d = (less bio.writer master d.0, d.1)
wants_has s (Drives bio ToPush) dev old new lists more h less d = absurd h
wants_has s (Drives bio ToRecord) dev old new lists more h less d = absurd h
wants_has s (Drives bio (ToMaster slip)) dev old new lists more h less d = absurd h
wants_has s Rests dev old new lists more h less d = absurd h
wants_has s (Breaks breach kept) dev old new lists more h less d = absurd h

module _ (scene : Scene) (s : State) (i : Invariant scene s) (p : Placed scene.setup s) (m : Move) (c : Can scene s m) (j : Invariant scene (after scene s m)) where
  abbrev new : State
  new = after scene s m

  -- a leg that a bio in a task's list 0 names is open behind the event too
  leg_stays : (writer master : ℕ) (item : Item Pad) → names_node item.bio.writer item.bio.node item ≤ total_weight scene (references scene.setup item.bio.writer item.bio.node) new
      → IsLegOf s writer master item → IsLegOf new writer master item
  leg_stays writer master item part (of, (node, at, role)) =
      let here : node_at (s.objects.book item.bio.writer) item.bio.node ≡ Some node = subst (λ w. node_at (s.objects.book w) item.bio.node ≡ Some node) (sym of) at in
      elim (stays_or_closes scene s m c item.bio.writer item.bio.node node here) [
        | inl (found, is, same) ↦ (of, (found, subst (λ w. node_at (new.objects.book w) item.bio.node ≡ Some found) of is, same ∙ role))
        | inr none ↦ absurd (
            let count : awaited_ends (node_at (new.objects.book item.bio.writer) item.bio.node) ≡ 0 = ap awaited_ends none in
            omega (arith, part, names_one item, count, j.counts item.bio.writer item.bio.node)
            )
      ]

  legs_stay : (writer master : ℕ) (items : List (Item Pad))
      → ((item : Item Pad) → ((g : Item Pad → ℕ) → g item ≤ sum_by g items) → names_node item.bio.writer item.bio.node item ≤ total_weight scene (references scene.setup item.bio.writer item.bio.node) new)
      → Each (IsLegOf s writer master) items → Each (IsLegOf new writer master) items
  legs_stay writer master [] part legs = tt
  legs_stay writer master (item ∷ items) part legs = (
    leg_stays writer master item (part item (λ g. omega (arith, sum_by-cons g item items))) legs.0,
    legs_stay writer master items (λ other within. part other (λ g. omega (arith, within g, sum_by-cons g item items))) legs.1,
  )

  -- so a task that goes on as it was has legs of its master still
  has_still : (place : ℕ) (x : TaskState) (doing : Doing) (lists : TaskLists) → place < scene.tasks → new.task place ≡ x → HasSubmission x doing lists → HasLegs s doing lists → HasLegs new doing lists
  has_still place x (Copies bio master leg want) lists lt is h d = (
    legs_stay bio.writer master lists.list0
        (λ item within.
        let w = references scene.setup item.bio.writer item.bio.node in
        omega (arith, within (w.bio (Lined (limit_of x))), submission_part w place x (Copies bio master leg want) lists h, task_part scene w new place x lt is)) d.0,
    d.1,
  )
  has_still place x Rests lists lt is h d = tt
  has_still place x (Drives bio ask) lists lt is h d = tt
  has_still place x (Breaks breach kept) lists lt is h d = tt

  task_still : (place : ℕ) (x : TaskState) → place < scene.tasks → new.task place ≡ x → TaskHasLegs s x → TaskHasLegs new x
  task_still place (Writer number todo taken submission) lt is d = has_still place (Writer number todo taken submission) submission.doing submission.lists lt is refl d
  task_still place (Rescuer dev submission) lt is d = has_still place (Rescuer dev submission) submission.doing submission.lists lt is refl d
  task_still place (Completer disk carried) lt is d = tt
  task_still place (Keeper keeping) lt is d = tt

pub record Legged (scene : Scene) (s : State) : Type 0 where
  pub tasks : (place : ℕ) → place < scene.tasks → TaskHasLegs s (s.task place)

module _ (scene : Scene) (s : State) (i : Invariant scene s) (p : Placed scene.setup s) (l : Legged scene s) where
  has : (place : ℕ) (x : TaskState) (doing : Doing) (lists : TaskLists) → place < scene.tasks → s.task place ≡ x → HasSubmission x doing lists → HasLegs s doing lists
  has place x doing lists lt is h = submission_has s x doing lists (subst (TaskHasLegs s) is (l.tasks place lt)) h

  -- the task of the event goes on so, and the others as they were
  goes : (m : Move) (c : Can scene s m) → Invariant scene (after scene s m) → (y : TaskState) → (after scene s m).task ≡ upd s.task (place_of m) y → TaskHasLegs (after scene s m) y
      → Legged scene (after scene s m)
  goes m c j y is here = record {
    tasks = λ place lt. elim (same_or_not place (place_of m)) [
      | inl e ↦ subst (TaskHasLegs (after scene s m)) (sym (ap (λ f. f place) is ∙ ap (upd s.task (place_of m) y) e ∙ upd-same s.task (place_of m) y)) here
      | inr ne ↦
          let same : (after scene s m).task place ≡ s.task place = ap (λ f. f place) is ∙ upd-other s.task (place_of m) y place ne in
          subst (TaskHasLegs (after scene s m)) (sym same) (task_still scene s i p m c j place (s.task place) lt same (l.tasks place lt))
    ];
  }

  all_same : (s : State) (lists : TaskLists) (writer master : ℕ) → Each (IsLegOf s writer master) lists.list0 → Each (IsLegOf s writer master) lists.list0
  all_same s lists writer master legs = legs

  pub stays_legged : (m : Move) (c : Can scene s m) → Invariant scene (after scene s m) → Legged scene (after scene s m)
  -- takes and misses
  stays_legged (moves.TakesFirst place writer todo later move) c j =
      goes (moves.TakesFirst place writer todo later move) c j _ refl tt
  stays_legged (moves.TakesVector place writer todo later item move) c j = goes (moves.TakesVector place writer todo later item move) c j _ refl tt
  stays_legged (moves.TakesSub place x doing lists dev waits move) c j =
      let m : Move = moves.TakesSub place x doing lists dev waits move in
      goes m c j _ refl (relined (after scene s m) x _ (wants_has (after scene s m) doing dev (Takes waits) _ lists lists c.3 (all_same (after scene s m) lists) (has place x doing lists c.0 c.1 c.2)))
  stays_legged (moves.TakesSlip place x bio lists move) c j = goes (moves.TakesSlip place x bio lists move) c j _ refl (relined (after scene s (moves.TakesSlip place x bio lists move)) x _ tt)
  stays_legged (moves.MissesOne place x number used) c j =
      goes (moves.MissesOne place x number used) c j x refl (subst (TaskHasLegs s) c.1 (l.tasks place c.0))
  stays_legged (moves.MissesTry place x doing lists dev used) c j =
      let m : Move = moves.MissesTry place x doing lists dev used in
      goes m c j _ refl (relined (after scene s m) x _ (wants_has (after scene s m) doing dev (Takes false) WantsPunt lists lists c.3 (all_same (after scene s m) lists) (has place x doing lists c.0 c.1 c.2)))
  -- punts
  stays_legged (moves.Punts place x doing lists dev) c j =
      let m : Move = moves.Punts place x doing lists dev in
      goes m c j _ refl
      (relined (after scene s m) x _
      (wants_has (after scene s m) doing dev WantsPunt (Takes true) lists (unpunted (Of dev) lists) c.3
      (λ writer master legs. each_less (IsLegOf (after scene s m) writer master) (is_of_other (Of dev)) lists.list0 legs) (has place x doing lists c.0 c.1 c.2)))
  -- pops, pushes, completions, links of writes and links of pieces
  stays_legged (moves.Pops place dev bio bios) c j = goes (moves.Pops place dev bio bios) c j _ refl (settled_none (after scene s (moves.Pops place dev bio bios)) scene.setup (bio ∷ []))
  stays_legged (moves.Pushes place x bio lists) c j = goes (moves.Pushes place x bio lists) c j _ refl (relined (after scene s (moves.Pushes place x bio lists)) x _ (settled_none (after scene s (moves.Pushes place x bio lists)) scene.setup (order bio.bio.dev lists)))
  stays_legged (moves.Completed place disk index bio status new) c j = goes (moves.Completed place disk index bio status new) c j _ refl tt
  stays_legged (moves.Begins place writer todo later item vector key) c j =
      goes (moves.Begins place writer todo later item vector key) c j _ refl (settled_none (after scene s (moves.Begins place writer todo later item vector key)) scene.setup (filled_of writer todo item vector key ∷ []))
  stays_legged (moves.Chained place x bio lists hand number kind sizes members key node) c j =
      goes (moves.Chained place x bio lists hand number kind sizes members key node) c j _ refl
      (relined (after scene s (moves.Chained place x bio lists hand number kind sizes members key node)) x _ (settled_none (after scene s (moves.Chained place x bio lists hand number kind sizes members key node)) scene.setup (order bio.bio.dev (cut_lists bio lists hand (first_length kind sizes bio.bio.range) key kind sizes members))))
  -- links of masters
  stays_legged (moves.Mastered place x bio lists slip key node) c j =
      let m : Move = moves.Mastered place x bio lists slip key node in
      let d = placed_at scene.setup s p place x (Drives bio (ToMaster slip)) lists c.1 c.2 in
      let up = d.1.0.1 in
      let set = d.1.0.3 in
      goes m c j _ refl
      (relined (after scene s m) x _
      (next_has (after scene s m) scene.setup lists bio.bio key 0 (subst (Each (IsLegOf (after scene s m) bio.bio.writer key)) (sym d.0) tt) (omega (arith, up, set))))
  -- links of legs
  stays_legged (moves.Legged place x bio lists master leg hand key node) c j =
      let m : Move = moves.Legged place x bio lists master leg hand key node in
      let new = after scene s m in
      let d = has place x (Copies bio master leg (Links hand)) lists c.0 c.1 c.2 in
      let lt = submission_fits scene x (Copies bio master leg (Links hand)) lists (subst (TaskIsSound scene) c.1 (i.tasks place)) c.2 in
      let item = leg_at bio hand leg key (tree_at scene.setup bio.dev) in
      let book : new.objects.book bio.writer ≡ with_node (s.objects.book bio.writer) key (Some (leg_node node.write master)) =
      upd-same s.objects.book bio.writer (with_node (s.objects.book bio.writer) key (Some (leg_node node.write master))) in
      let made : node_at (new.objects.book bio.writer) key ≡ Some (leg_node node.write master) =
      ap (λ b. node_at b key) book ∙ get_or-set_same (s.objects.book bio.writer).nodes key (Some (leg_node node.write master)) None (vacant_at (s.objects.book bio.writer) key c.5).1 in
      let own : IsLegOf new bio.writer master item = by_tree (tree_at scene.setup bio.dev) lt made in
      goes m c j _ refl
      (relined new x _
      (next_has new scene.setup (submitted item lists) bio master (leg + 1)
      (each_append (IsLegOf new bio.writer master) lists.list0 (item ∷ []) (old bio.writer master lists.list0 d.0) (own, tt)) d.1))
    where
      old : (writer above : ℕ) (items : List (Item Pad)) → Each (IsLegOf s writer above) items → Each (IsLegOf (after scene s (moves.Legged place x bio lists master leg hand key node)) writer above) items
      old writer above items legs =
          each_map (IsLegOf s writer above) (IsLegOf (after scene s (moves.Legged place x bio lists master leg hand key node)) writer above)
          (λ item d. (d.0, (d.1.0, made_stays s.objects.book bio.writer key (leg_node node.write master) writer item.bio.node d.1.0 c.5 d.1.1, d.1.2))) items legs

      by_tree : (t : Tree) → leg < legs_of t → node_at ((after scene s (moves.Legged place x bio lists master leg hand key node)).objects.book bio.writer) key ≡ Some (leg_node node.write master)
          → IsLegOf (after scene s (moves.Legged place x bio lists master leg hand key node)) bio.writer master (leg_at bio hand leg key t)
      by_tree (Leaf number sectors) lt made = absurd (omega (arith, lt))
      by_tree (Split number kind sizes members) lt made = absurd (omega (arith, lt))
      by_tree (Mirrored number sizes members) lt made = (refl, (leg_node node.write master, made, refl))
  -- drops that leave a node open, drops that close a node, gives, ends of writes, resizes and rounds
  stays_legged (moves.Told place disk carried writer key status part node) c j = goes (moves.Told place disk carried writer key status part node) c j _ refl tt
  stays_legged (moves.Closes place disk carried writer key status part node) c j = goes (moves.Closes place disk carried writer key status part node) c j _ refl tt
  stays_legged (moves.Gives place disk writer number closed held) c j = goes (moves.Gives place disk writer number closed held) c j _ refl tt
  stays_legged (moves.Ends place disk writer closed) c j = goes (moves.Ends place disk writer closed) c j _ refl tt
  stays_legged (moves.Resized place pool min later duties) c j = goes (moves.Resized place pool min later duties) c j _ refl tt
  stays_legged (moves.Started place round later duties) c j = goes (moves.Started place round later duties) c j _ refl tt
