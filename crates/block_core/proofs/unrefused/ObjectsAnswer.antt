-- Each object answers what a task asks it for next, and does not refuse it.
use Rattle.std.proofs.Common.{◌≡◌, ◌+◌, ◌-◌, ◌*◌, ◌<◌, ◌≤◌, ℕ, Bool, true, false, List, [], ◌∷◌, Option, None, Some, IsSome, inl, inr, refl, sym, ◌∙◌, ap, subst, arith, true≢false}
use Rattle.std.specs.Prelude.{◌^◌, sum_by}
use Rattle.std.proofs.lemmas.List.Elements.{All-get_or}
use Rattle.std.proofs.lemmas.List.Sums.{sum_by-cons}
use Rattle.elem_ledger.specs.Ledger.{LedgerId}
use Rattle.stack_base.specs.declared.ids.DevId.{DevId}
use Rattle.stack_base.specs.declared.ids.Status.{Status}
use Rattle.bio_records.specs.declared.bio.Pad.{Pad}
use Rattle.bio_records.specs.declared.tasks.TaskLists.{TaskLists}
use Rattle.bio_records.specs.Items.{Item}
use Rattle.bio_books.specs.declared.node.Role.{Role}
use Rattle.bio_books.specs.declared.node.Role.TheVariants as role
use Rattle.bio_books.specs.Books.{Node, BookState, VectorItem, SlipItem, node_at}
use Rattle.bio_books.specs.Links.{HasNoVacant, Linked, Made, NoRoom, Stray, ChainsAt, MastersAt, LegsAt}
use Rattle.bio_books.specs.Drops.{DropOutcome, DropsAt}
use Rattle.bio_books.specs.Drops as end
use Rattle.run_machine.specs.Scene.{Scene, tree_at}
use Rattle.run_machine.specs.Submissions.{Links, ToCut, ToMaster, Doing, Rests, Drives, Copies, Breaks, Submission, submission_request}
use Rattle.run_machine.specs.Requests as requests
use Rattle.run_machine.specs.Requests.{Request, Reply, Opening}
use Rattle.run_machine.specs.Tasks.{TaskState, Writer, Rescuer, Completer, Keeper, Keeping, Keeps, Stops, Resizes, Starts, Todo, Gathered, NoBio, HasBio, HasBoth, Carried, Empty, Brings, Carries, Fails, request, with_bio, needs_vector}
use Rattle.run_machine.specs.Objects.{Objects, Serves}
use Rattle.run_machine.specs.Runs.{State}
use Rattle.block_core.specs.Weights.{one_if_same, task_weight, legs_left}
use Rattle.block_core.proofs.moves.References.{references, awaited_ends}
use Rattle.block_core.specs.Rooms.{need_at, todo_need, legs_need, room, HasRoomInBooks}
use Rattle.block_core.specs.Breaks.{is_refusal}
use Rattle.block_core.proofs.moves.Moves.{HasSubmission}
use Rattle.block_core.proofs.moves.Sums.{one-same}
use Rattle.block_core.specs.Roles.{named}
use Rattle.block_core.proofs.sound.Invariant.{own_part, own_of, TaskIsSound, Invariant}
use Rattle.block_core.proofs.sound.Orders.{Placed}
use Rattle.block_core.proofs.moves.Deltas.{vacant_at}
use Rattle.block_core.proofs.sound.TaskSubmissions.{submission_fits}
use Rattle.block_core.proofs.sound.OrdersKept.{placed_at}
use Rattle.block_core.proofs.unrefused.NodeNeeds.{Needs, mirror_need, cut_need, legs_few}
use Rattle.block_core.proofs.stuck.Idle.{open_in_books, open_at}
use Rattle.block_core.proofs.unrefused.VacantPlaces.{HasVacant, has_vacant}
use Rattle.block_core.proofs.moves.Totals.{task_part, submission_part, within, refs_within, carrying, carried_few}

-- a node is open at a place
pub record IsOpenAt (book : BookState) (place : ℕ) : Type 0 where
  pub node : Node
  pub is : node_at book place ≡ Some node
  pub waits : 1 ≤ node.count
  pub few : node.count < 2 ^ 64 - 1

-- what a request of a book needs of it
abbrev pub CanOpen : BookState → Opening → Type 0
CanOpen book (requests.Write write vector) = HasVacant book
CanOpen book (requests.Chain parent) = HasVacant book × IsOpenAt book parent
CanOpen book (requests.Master parent part slip legs) = HasVacant book × IsOpenAt book parent
CanOpen book (requests.Leg master) = HasVacant book × IsOpenAt book master

abbrev pub IsReady : Objects → Request → Type 0
IsReady objects (requests.Link writer opening) = CanOpen (objects.book writer) opening
IsReady objects (requests.Drop writer node status part) = IsOpenAt (objects.book writer) node
IsReady objects request = Unit {0}

-- a book with a vacant place is not full
not_full : (book : BookState) → HasVacant book → HasNoVacant book → ⊥
not_full book (place, vacant) full =
    let at = vacant_at book place vacant in
    let some : IsSome (node_at book place) = All-get_or IsSome book.nodes place None at.1 full in
    let none : IsSome {T = Node} None = subst IsSome at.0 some in
    true≢false (sym none)

-- and its answer is no refusal
module _ (ledger : ℕ → LedgerId) (old : Objects) (new : Objects) where
  no_spent : (request : Request) → Serves ledger old request requests.NoTicket new → ⊥
  -- takes and gives
  no_spent (requests.TakeBio set waits) h = h
  no_spent requests.TakeVec h = h
  no_spent (requests.TakeSlip dev) h = h
  no_spent (requests.GiveBio bio) h = h
  no_spent (requests.GiveVec vector) h = h
  no_spent (requests.GiveSlip slip) h = h
  -- punts, pops, pushes and completions
  no_spent (requests.Punt dev moved) h = h
  no_spent (requests.Pop dev) h = h
  no_spent (requests.Push bio) h = h
  no_spent (requests.Complete disk) h = h
  -- links and drops
  no_spent (requests.Link writer opening) h = h
  no_spent (requests.Drop writer node status part) h = h
  -- what is asked of the tally and of reserves
  no_spent (requests.Done write status) h = h
  no_spent (requests.Resize pool min) h = h
  no_spent (requests.NextRound round) h = h
  -- looks, and no request
  no_spent requests.LookRound h = h
  no_spent requests.LookLeft h = h
  no_spent requests.Rest h = h

  -- by what stands where the request says
  chain_made : (book after : BookState) (parent : ℕ) (back : Linked) (stands : IsOpenAt book parent) → HasVacant book
      → ChainsAt book parent (Some stands.node) back after → is_refusal (requests.LinkedTo back) ≡ false
  chain_made book after parent (Made place) stands vacant h = refl
  chain_made book after parent (NoRoom back) stands vacant (inl full, same, stays) = absurd (not_full book vacant full)
  chain_made book after parent (NoRoom back) stands vacant (inr many, same, stays) = absurd (let few = stands.few in omega (arith, few, many))
  chain_made book after parent (Stray back) stands vacant h = absurd h

  master_made : (book after : BookState) (parent : ℕ) (part : Item Pad) (slip : SlipItem) (legs : ℕ) (back : Linked) (node : Node) → HasVacant book
      → MastersAt book parent (Some node) part slip legs back after → is_refusal (requests.LinkedTo back) ≡ false
  master_made book after parent part slip legs (Made place) node vacant h = refl
  master_made book after parent part slip legs (NoRoom back) node vacant h = absurd (not_full book vacant h.0)
  master_made book after parent part slip legs (Stray back) node vacant h = absurd h

  leg_made : (book after : BookState) (master : ℕ) (back : Linked) (node : Node) → HasVacant book
      → LegsAt book master (Some node) back after → is_refusal (requests.LinkedTo back) ≡ false
  leg_made book after master (Made place) node vacant h = refl
  leg_made book after master (NoRoom back) node vacant h = absurd (not_full book vacant h.0)
  leg_made book after master (Stray back) node vacant h = absurd h

  drop_made : (book after : BookState) (place : ℕ) (status : Status) (part : Option (Item Pad)) (ended : DropOutcome) (node : Node)
      → DropsAt book place (Some node) status part ended after → is_refusal (requests.DroppedTo ended) ≡ false
  drop_made book after place status part end.Left node h = refl
  drop_made book after place status part (end.Up closed) node h = refl
  drop_made book after place status part (end.Top closed) node h = refl
  drop_made book after place status part (end.Stray back) node h = absurd h

  opens : (writer : ℕ) (opening : Opening) (answer : Linked) → CanOpen (old.book writer) opening
      → Serves ledger old (requests.Link writer opening) (requests.LinkedTo answer) new → is_refusal (requests.LinkedTo answer) ≡ false
  opens writer (requests.Write write vector) (Made place) ready h = refl
  opens writer (requests.Write write vector) (NoRoom back) ready h = absurd (not_full (old.book writer) ready h.0.0)
  opens writer (requests.Write write vector) (Stray back) ready h = absurd h.0
  opens writer (requests.Chain parent) answer ready h =
      chain_made (old.book writer) (new.book writer) parent answer ready.1 ready.0
      (subst (λ found. ChainsAt (old.book writer) parent found answer (new.book writer)) ready.1.is h.0)
  opens writer (requests.Master parent part slip legs) answer ready h =
      master_made (old.book writer) (new.book writer) parent part slip legs answer ready.1.node ready.0
      (subst (λ found. MastersAt (old.book writer) parent found part slip legs answer (new.book writer)) ready.1.is h.0)
  opens writer (requests.Leg master) answer ready h =
      leg_made (old.book writer) (new.book writer) master answer ready.1.node ready.0
      (subst (λ found. LegsAt (old.book writer) master found answer (new.book writer)) ready.1.is h.0)

  linked : (request : Request) (answer : Linked) → IsReady old request → Serves ledger old request (requests.LinkedTo answer) new → is_refusal (requests.LinkedTo answer) ≡ false
  -- a link
  linked (requests.Link writer opening) answer ready h = opens writer opening answer ready h
  -- nothing else is answered so
  linked _ answer ready h = absurd h

  dropped : (request : Request) (ended : DropOutcome) → IsReady old request → Serves ledger old request (requests.DroppedTo ended) new → is_refusal (requests.DroppedTo ended) ≡ false
  -- a drop
  dropped (requests.Drop writer node status part) ended ready h =
      drop_made (old.book writer) (new.book writer) node status part ended ready.node
      (subst (λ found. DropsAt (old.book writer) node found status part ended (new.book writer)) ready.is h.0)
  -- nothing else is answered so
  dropped _ ended ready h = absurd h

  pub not_refused : (request : Request) (reply : Reply) → IsReady old request → Serves ledger old request reply new → is_refusal reply ≡ false
  -- replies that may refuse
  not_refused request (requests.LinkedTo answer) ready h = linked request answer ready h
  not_refused request (requests.DroppedTo ended) ready h = dropped request ended ready h
  not_refused request requests.NoTicket ready h = absurd (no_spent request h)
  -- all others never do
  not_refused request _ ready h = refl

own_few : (node : Option Node) → own_of node ≤ 1
own_few None = omega arith
own_few (Some node) = by_role node.role node.held.bio
  where
    by_role : (role : Role) (part : Option (Item Pad)) → own_part role part ≤ 1
    by_role role.Top None = omega arith
    by_role role.Top (Some bio) = omega arith
    by_role (role.Chain parent) None = omega arith
    by_role (role.Chain parent) (Some bio) = omega arith
    by_role (role.Master parent) part = omega arith
    by_role (role.Leg parent) None = omega arith
    by_role (role.Leg parent) (Some bio) = omega arith

-- fewer than can be counted
abbrev pub IsSmall : Scene → Type 0
IsSmall scene = (writer : ℕ) → 1 + scene.setup.places writer + scene.tasks < 2 ^ 64 - 1

-- no node waits for more ends than its own part, one for each place of its book, and one for each task
pub ends_few : (scene : Scene) (s : State) → Invariant scene s → HasRoomInBooks scene s → (writer key : ℕ)
    → awaited_ends (node_at (s.objects.book writer) key) ≤ 1 + scene.setup.places writer + scene.tasks
ends_few scene s i r writer key =
    omega (
      arith,
      i.counts writer key,
      within (references scene.setup writer key) (named writer key) (room scene.setup writer) carrying (refs_within scene.setup writer key) scene s,
      own_few (node_at (s.objects.book writer) key),
      i.owns writer key,
      r.room writer,
      carried_few scene s,
    )

module _ (scene : Scene) (s : State) (n : Needs scene.setup) (small : IsSmall scene) (i : Invariant scene s) (a : Placed scene.setup s) (r : HasRoomInBooks scene s)
    (place : ℕ) (here : place < scene.tasks) where
  -- a node that a task refers to is open
  is_open : (x : TaskState) (writer key : ℕ) → s.task place ≡ x → 1 ≤ task_weight (references scene.setup writer key) place x → IsOpenAt (s.objects.book writer) key
  is_open x writer key is more =
      let o = open_at scene s i writer key (omega (arith, more, task_part scene (references scene.setup writer key) s place x here is)) in
      let count : awaited_ends (node_at (s.objects.book writer) key) ≡ o.0.count = ap awaited_ends o.1 in
      record { node = o.0; is = o.1; waits = o.2; few = omega (arith, count, ends_few scene s i r writer key, small writer) }

  -- a book with an open node is one of the books
  in_books : (writer key : ℕ) → IsOpenAt (s.objects.book writer) key → writer < scene.books
  in_books writer key stands = open_in_books scene s i writer key stands.node stands.is

  -- a submission
  ready_submission : (x : TaskState) (doing : Doing) (lists : TaskLists) → s.task place ≡ x → HasSubmission x doing lists → IsReady s.objects (submission_request scene.setup doing lists)
  -- links of pieces: the book has a vacant place, and the node above is open
  ready_submission x (Drives bio (ToCut (Links hand))) lists is h =
      let doing : Doing = Drives bio (ToCut (Links hand)) in
      let writer = bio.bio.writer in
      let key = bio.bio.node in
      let d = placed_at scene.setup s a place x doing lists is h in
      let need = cut_need scene.setup n bio (Links hand) (tree_at scene.setup bio.bio.dev) refl d.1.0.0 d.3 in
      let all : one_if_same writer writer * need_at scene.setup bio.bio ≡ need_at scene.setup bio.bio = ap (λ k. k * need_at scene.setup bio.bio) (one-same writer) ∙ omega arith in
      let names_it : one_if_same writer writer * one_if_same key key ≡ 1 = ap (λ k. k * one_if_same key key) (one-same writer) ∙ (ap (λ k. 1 * k) (one-same key)) in
      let stands = is_open x writer key is (omega (arith, names_it, submission_part (references scene.setup writer key) place x doing lists h)) in
      (has_vacant scene s r place x writer here is (in_books writer key stands) (omega (arith, need, all, submission_part (room scene.setup writer) place x doing lists h)), stands)
  -- links of masters: likewise
  ready_submission x (Drives bio (ToMaster slip)) lists is h =
      let doing : Doing = Drives bio (ToMaster slip) in
      let writer = bio.bio.writer in
      let key = bio.bio.node in
      let d = placed_at scene.setup s a place x doing lists is h in
      let there = d.1.0.0 in
      let need = mirror_need (tree_at scene.setup bio.bio.dev) bio.bio.range bio.bio.dev.0 slip d.3 there.some in
      let all : one_if_same writer writer * need_at scene.setup bio.bio ≡ need_at scene.setup bio.bio = ap (λ k. k * need_at scene.setup bio.bio) (one-same writer) ∙ omega arith in
      let names_it : one_if_same writer writer * one_if_same key key ≡ 1 = ap (λ k. k * one_if_same key key) (one-same writer) ∙ (ap (λ k. 1 * k) (one-same key)) in
      let stands = is_open x writer key is (omega (arith, names_it, submission_part (references scene.setup writer key) place x doing lists h)) in
      (has_vacant scene s r place x writer here is (in_books writer key stands) (omega (arith, need, all, submission_part (room scene.setup writer) place x doing lists h)), stands)
  -- links of legs: likewise, and the node above is the master
  ready_submission x (Copies bio master leg (Links hand)) lists is h =
      let doing : Doing = Copies bio master leg (Links hand) in
      let writer = bio.writer in
      let lt = submission_fits scene x doing lists (subst (TaskIsSound scene) is (i.tasks place)) h in
      let few = legs_few (tree_at scene.setup bio.dev) bio.range leg in
      let all : one_if_same writer writer * legs_need scene.setup bio leg ≡ legs_need scene.setup bio leg = ap (λ k. k * legs_need scene.setup bio leg) (one-same writer) ∙ omega arith in
      let left = legs_left scene.setup bio leg in
      let refers : one_if_same writer writer * one_if_same master master * left ≡ left = ap (λ k. k * one_if_same master master * left) (one-same writer) ∙ (ap (λ k. 1 * k * left) (one-same master) ∙ omega arith) in
      let stands = is_open x writer master is (omega (arith, refers, lt, submission_part (references scene.setup writer master) place x doing lists h)) in
      (has_vacant scene s r place x writer here is (in_books writer master stands) (omega (arith, few, lt, all, submission_part (room scene.setup writer) place x doing lists h)), stands)
  -- no other asks a book
  ready_submission x _ lists is h = tt

  -- a writer that has still to begin a write
  begins : (number : ℕ) (todo : Todo) (later : List Todo) (taken : Gathered) (submission : Submission) → s.task place ≡ Writer number (todo ∷ later) taken submission → number < scene.books
      → HasVacant (s.objects.book number)
  begins number todo later taken submission is lt =
      let all = ap (λ k. k * sum_by (todo_need scene.setup) (todo ∷ later)) (one-same number) in
      has_vacant scene s r place (Writer number (todo ∷ later) taken submission) number here is lt (omega (arith, all, sum_by-cons (todo_need scene.setup) todo later))

  vector_or_not : (b : Bool) (number : ℕ) (todo : Todo) → HasVacant (s.objects.book number) → IsReady s.objects (with_bio number b todo)
  vector_or_not true number todo vacant = tt
  vector_or_not false number todo vacant = vacant

  ready_writer : (number : ℕ) (todos : List Todo) (taken : Gathered) (doing : Doing) (lists : TaskLists)
      → s.task place ≡ Writer number todos taken (record { doing = doing; lists = lists }) → number < scene.books
      → IsReady s.objects (request scene.setup (Writer number todos taken (record { doing = doing; lists = lists })))
  ready_writer number [] taken Rests lists is lt = tt
  ready_writer number (todo ∷ later) NoBio Rests lists is lt = tt
  ready_writer number (todo ∷ later) (HasBio bio) Rests lists is lt = vector_or_not (needs_vector todo.write) number todo (begins number todo later (HasBio bio) _ is lt)
  ready_writer number (todo ∷ later) (HasBoth bio vector) Rests lists is lt = begins number todo later (HasBoth bio vector) _ is lt
  ready_writer number todos taken (Drives bio ask) lists is lt = ready_submission _ (Drives bio ask) lists is refl
  ready_writer number todos taken (Copies bio master leg want) lists is lt = ready_submission _ (Copies bio master leg want) lists is refl
  ready_writer number todos taken (Breaks breach kept) lists is lt = tt

  ready_rescuer : (dev : DevId) (doing : Doing) (lists : TaskLists) → s.task place ≡ Rescuer dev (record { doing = doing; lists = lists })
      → IsReady s.objects (request scene.setup (Rescuer dev (record { doing = doing; lists = lists })))
  ready_rescuer dev Rests lists is = tt
  ready_rescuer dev (Drives bio ask) lists is = ready_submission _ (Drives bio ask) lists is refl
  ready_rescuer dev (Copies bio master leg want) lists is = ready_submission _ (Copies bio master leg want) lists is refl
  ready_rescuer dev (Breaks breach kept) lists is = tt

  -- a completer tells an end
  ready_carried : (disk : DevId) (carried : Carried) → s.task place ≡ Completer disk carried → IsReady s.objects (request scene.setup (Completer disk carried))
  ready_carried disk Empty is = tt
  ready_carried disk (Brings bio status) is =
      let writer = bio.bio.writer in
      let key = bio.bio.node in
      let names_it : one_if_same writer writer * one_if_same key key ≡ 1 = ap (λ k. k * one_if_same key key) (one-same writer) ∙ (ap (λ k. 1 * k) (one-same key)) in
      is_open (Completer disk (Brings bio status)) writer key is (omega (arith, names_it))
  ready_carried disk (Carries writer closed) is = by_held closed.held.vector closed.held.bio closed.held.slip closed.parent closed.write closed.status is
    where
      by_held : (vector : Option VectorItem) (bio : Option (Item Pad)) (slip : Option SlipItem) (parent : Option ℕ) (write : ℕ) (status : Status)
          → s.task place ≡ Completer disk (Carries writer (record { held = record { bio = bio; vector = vector; slip = slip }; parent = parent; write = write; status = status }))
          → IsReady s.objects (request scene.setup (Completer disk (Carries writer (record { held = record { bio = bio; vector = vector; slip = slip }; parent = parent; write = write; status = status }))))
      by_held (Some vector) bio slip parent write status is = tt
      by_held None (Some bio) slip parent write status is = tt
      by_held None None (Some slip) parent write status is = tt
      by_held None None None (Some parent) write status is =
          let names_it : one_if_same writer writer * one_if_same parent parent ≡ 1 = ap (λ k. k * one_if_same parent parent) (one-same writer) ∙ (ap (λ k. 1 * k) (one-same parent)) in
          is_open _ writer parent is (omega (arith, names_it))
      by_held None None None None write status is = tt
  ready_carried disk (Fails breach kept) is = tt

  ready_keeper : (keeping : Keeping) → IsReady s.objects (request scene.setup (Keeper keeping))
  ready_keeper (Keeps []) = tt
  ready_keeper (Keeps (Resizes pool min later ∷ duties)) = tt
  ready_keeper (Keeps (Starts round later ∷ duties)) = tt
  ready_keeper (Stops breach) = tt

  ready_task : (x : TaskState) → s.task place ≡ x → TaskIsSound scene x → IsReady s.objects (request scene.setup x)
  ready_task (Writer number todo taken submission) is fits = ready_writer number todo taken submission.doing submission.lists is fits.0
  ready_task (Rescuer dev submission) is fits = ready_rescuer dev submission.doing submission.lists is
  ready_task (Completer disk carried) is fits = ready_carried disk carried is
  ready_task (Keeper keeping) is fits = ready_keeper keeping

  pub ready : IsReady s.objects (request scene.setup (s.task place))
  ready = ready_task (s.task place) refl (i.tasks place)
