-- Events take no more elements than were still to be taken.
use Rattle.std.proofs.Common.{◌≡◌, ◌+◌, ◌≤◌, ◌==◌, if◌then◌else◌, ℕ, zero, suc, Bool, List, [], ◌∷◌, length, Option, None, Some, refl, ap, subst, arith}
use Rattle.std.specs.Prelude.{sum_by}
use Rattle.std.proofs.lemmas.List.Sums.{sum_by-cons, sum_by_push}
use Rattle.elem_ledger.specs.Ledger.{LedgerId}
use Rattle.bio_records.specs.declared.bio.Bio.{Bio}
use Rattle.bio_records.specs.declared.bio.Pad.{Pad}
use Rattle.bio_records.specs.declared.tasks.TaskLists.{TaskLists}
use Rattle.bio_records.specs.Items.{Item}
use Rattle.bio_lists.specs.Submission.{submitted}
use Rattle.layout_model.specs.Need.{needed, vectors}
use Rattle.stack_base.specs.declared.ids.Status.{Status}
use Rattle.stack_base.proofs.ListLemmas.{Each}
use Rattle.bio_books.specs.Books.{Node, VectorItem, SlipItem, Holding, node_at, later_part}
use Rattle.model_disks.specs.Disks.{DiskState}
use Rattle.run_machine.specs.Scene.{Setup, Scene, tree_at}
use Rattle.run_machine.specs.Submissions.{Takes, WantsPunt, Links, ToPush, ToCut, ToRecord, ToMaster, Doing, Rests, Drives, Copies, Breaks, Submission, rests, copies, first_length, landed, legs_of, leg_at}
use Rattle.run_machine.specs.Tasks.{TaskState, Writer, Rescuer, Completer, Keeper, Todo, Gathered, NoBio, HasBio, HasBoth, Carried, Empty, Brings, Carries, Fails}
use Rattle.run_machine.specs.Runs.{State}
use Rattle.block_core.specs.Weights.{Weight, Spot, Lined, Rescued, Pending, total_weight, sum_at, weigh_option, doing_weight, submission_weight, gathered_weight, carried_weight, task_weight, book_weight, elements_of_pool, holding_elements, one_if_same, no_weight}
use Rattle.block_core.specs.Charges.{one_if_some}
use Rattle.block_core.specs.Rooms.{to_open, todo_need, legs_need}
use Rattle.block_core.proofs.moves.Moves.{Move, Can, after, lost, gained, limit_of, TellsNode, gathered_of, filled_of, cut_lists}
use Rattle.block_core.proofs.moves.Moves as moves
use Rattle.block_core.proofs.sound.Invariant.{DoingFits, SubmissionFits, TaskIsSound, Invariant}
use Rattle.block_core.proofs.moves.Geometry.{IsThere}
use Rattle.block_core.proofs.sound.Orders.{IsOwn, DoingPlaced, SubmissionPlaced, TodoThere, TaskPlaced, Placed, DeviceGeometry}
use Rattle.block_core.proofs.moves.Deltas.{delta}
use Rattle.block_core.proofs.sound.TaskSubmissions.{submission_fits}
use Rattle.block_core.proofs.sound.OrdersKept.{placed_at}
use Rattle.block_core.proofs.sound.SumParts.{cut_weight, unless_less}
use Rattle.block_core.proofs.unrefused.NodeNeeds.{Needs, mirror_need, cut_need, legs_on, legs_few}
use Rattle.block_core.proofs.moves.Landings.{AreThere, IsLanding, settled_there, goes_there, copies_there, all_there, none_there, cut_there, leg_there}
use Rattle.block_core.proofs.bound.TaskCharges.{released_charge}
use Rattle.block_core.proofs.moves.Totals.{some_of}
use Rattle.std.proofs.lemmas.List.Sums.{sum_by-le-sum_by}

-- the elements that a write needs
abbrev pub write_need : Setup → Todo → ℕ
write_need setup todo = 1 + vectors todo.write.count + needed (tree_at setup todo.write.dev) todo.write.start todo.write.count

-- those that a writer has, or that its writes have still to take; one that has a vector needs no other
abbrev pub writes_need : Setup → List Todo → Gathered → ℕ
writes_need setup todos NoBio = sum_by (write_need setup) todos
writes_need setup [] (HasBio bio) = 1
writes_need setup (todo ∷ later) (HasBio bio) = write_need setup todo + sum_by (write_need setup) later
writes_need setup [] (HasBoth bio vector) = 2
writes_need setup (todo ∷ later) (HasBoth bio vector) = 1 + todo_need setup todo + sum_by (write_need setup) later

abbrev pub held_count : Holding → ℕ
held_count held = one_if_some held.bio + one_if_some held.vector + one_if_some held.slip

-- the elements that are out, and those that are still to be taken for what is begun or to begin; what a task has in hand is one of these
abbrev pub worth : Setup → Weight
worth setup = record no_weight {
  todo = λ writer todos taken. writes_need setup todos taken;
  bio = λ spot item. 1 + to_open setup spot item.bio;
  copy = λ bio master leg. legs_need setup bio leg;
  node = λ writer place node. held_count node.held;
  closed = λ task writer closed. held_count closed.held;
}

landed_worth : (setup : Setup) → Needs setup → (limit : ℕ) (item : Item Pad) → IsThere setup item.bio
    → (worth setup).bio (Lined limit) (record item { bio = landed (tree_at setup item.bio.dev) item.bio }) ≡ (worth setup).bio (Lined limit) item
landed_worth setup n limit item is = ap (λ v. 1 + v) (n.lands item.bio is)

copies_worth : (setup : Setup) (n : Needs setup) (limit : ℕ) (lists : TaskLists) (bio : Bio) (master leg : ℕ) → AreThere setup lists.list0 → AreThere setup lists.list1
    → submission_weight (worth setup) limit (copies setup lists bio master leg)
    ≤ legs_need setup bio leg + sum_by ((worth setup).bio (Lined limit)) lists.list0 + sum_by ((worth setup).bio (Lined limit)) lists.list1
copies_worth setup n limit lists bio master leg first second = omega (
  arith,
  copies_there setup (worth setup) (landed_worth setup n) limit lists bio master leg first second,
  unless_less (leg == legs_of (tree_at setup bio.dev)) (legs_need setup bio leg),
)

-- a part that comes with an end
later_worth : (held part : Option (Item Pad)) → one_if_some (later_part held part) ≤ one_if_some held + one_if_some part
later_worth held None = omega arith
later_worth held (Some bio) = omega arith

tells_worth : (setup : Setup) (place : ℕ) (carried : Carried) (writer key : ℕ) (status : Status) (part : Option (Item Pad)) → TellsNode carried writer key status part
    → one_if_some part ≤ carried_weight (worth setup) place carried
tells_worth setup place (Brings bio ending) writer key status part t = let same : one_if_some part ≡ 1 = ap one_if_some t.3 in omega (arith, same)
tells_worth setup place (Carries of closed) writer key status part t = let same : one_if_some part ≡ 0 = ap one_if_some t.3 in omega (arith, same)
tells_worth setup place Empty writer key status part t = absurd t
tells_worth setup place (Fails breach kept) writer key status part t = absurd t

module _ (scene : Scene) (s : State) (g : DeviceGeometry scene.setup) (n : Needs scene.setup) (i : Invariant scene s) (a : Placed scene.setup s) where
  -- no event needs more elements than it had
  abbrev Fits : Move → Type 0
  Fits m = gained scene (worth scene.setup) s m ≤ lost scene (worth scene.setup) s m

  lands : IsLanding scene.setup (worth scene.setup)
  lands = landed_worth scene.setup n

  begins : (place writer : ℕ) (todo : Todo) (later : List Todo) (item : Item Pad) (vector : Option VectorItem) (key : ℕ) → TodoThere scene.setup writer todo
      → Fits (moves.Begins place writer todo later item vector key)
  begins place writer todo later item None key one_if_some =
      let filled_item : Item Pad = filled_of writer todo item None key in
      let b = settled_there scene.setup (worth scene.setup) lands 32 (filled_item ∷ []) (one_if_some key, tt) in
      omega (arith, b, sum_by-cons ((worth scene.setup).bio (Lined 32)) filled_item [])
  begins place writer todo later item (Some vector) key one_if_some =
      let filled_item : Item Pad = filled_of writer todo item (Some vector) key in
      let b = settled_there scene.setup (worth scene.setup) lands 32 (filled_item ∷ []) (one_if_some key, tt) in
      omega (arith, b, sum_by-cons ((worth scene.setup).bio (Lined 32)) filled_item [])

  pub fits : (m : Move) → Can scene s m → Fits m
  -- takes and misses: what is taken was still to be taken
  fits (moves.TakesFirst place writer todo later move) c = omega (arith, sum_by-cons (write_need scene.setup) todo later)
  fits (moves.TakesVector place writer todo later item move) c =
      let one_more : vectors todo.write.count ≡ 1 = ap (λ (b : Bool). if b then 1 else 0) c.4 in
      omega (arith, one_more)
  fits (moves.TakesSub place x doing lists dev waits move) c = omega arith
  fits (moves.TakesSlip place x bio lists move) c = omega arith
  fits (moves.MissesOne place x number used) c = omega arith
  fits (moves.MissesTry place x doing lists dev used) c = omega arith
  -- punts, pops, pushes and completions: bios go to other places
  fits (moves.Punts place x doing lists dev) c = omega arith
  fits (moves.Pops place dev bio bios) c =
      let r : Each (IsOwn scene.setup dev.0 dev.0) (bio ∷ bios) = subst (Each (IsOwn scene.setup dev.0 dev.0)) c.3 (a.rescued dev.0) in
      omega (arith, settled_there scene.setup (worth scene.setup) lands dev.0 (bio ∷ []) (r.0.0.0, tt), sum_by-cons ((worth scene.setup).bio (Lined dev.0)) bio [])
  fits (moves.Pushes place x bio lists) c =
      let d = placed_at scene.setup s a place x (Drives bio ToPush) lists c.1 c.2 in
      omega (arith, goes_there scene.setup (worth scene.setup) lands (limit_of x) bio.bio.dev lists (none_there scene.setup (limit_of x) lists d.0) (all_there scene.setup (limit_of x) lists.list1 d.1.1))
  fits (moves.Completed place disk index bio status new) c = omega arith
  -- links of writes
  fits (moves.Begins place writer todo later item vector key) c =
      let t : TaskPlaced scene.setup (Writer writer (todo ∷ later) (gathered_of item vector) rests) = subst (TaskPlaced scene.setup) c.1 (a.tasks place) in
      begins place writer todo later item vector key t.0.0
  -- links of pieces
  fits (moves.Chained place x bio lists hand number kind sizes members key node) c =
      let k = first_length kind sizes bio.bio.range in
      let d = placed_at scene.setup s a place x (Drives bio (ToCut (Links hand))) lists c.1 c.2 in
      let cuts = cut_there scene.setup (limit_of x) g bio hand lists key number kind sizes members d c.3 in
      let part = n.cut bio hand key number kind sizes members d.1.0.0 c.3 cuts.0 in
      omega (
        arith,
        goes_there scene.setup (worth scene.setup) lands (limit_of x) bio.bio.dev (cut_lists bio lists hand k key kind sizes members) cuts.1 (all_there scene.setup (limit_of x) lists.list1 d.1.1),
        cut_weight ((worth scene.setup).bio (Lined (limit_of x))) bio lists hand k key kind sizes members,
        part,
      )
  -- links of masters
  fits (moves.Mastered place x bio lists slip key node) c =
      let d = placed_at scene.setup s a place x (Drives bio (ToMaster slip)) lists c.1 c.2 in
      let is = d.1.0.0 in
      let part = mirror_need (tree_at scene.setup bio.bio.dev) bio.bio.range bio.bio.dev.0 slip d.3 is.some in
      omega (arith, copies_worth scene.setup n (limit_of x) lists bio.bio key 0 (none_there scene.setup (limit_of x) lists d.0) (all_there scene.setup (limit_of x) lists.list1 d.1.1), part)
  -- links of legs
  fits (moves.Legged place x bio lists master leg hand key node) c =
      let d = placed_at scene.setup s a place x (Copies bio master leg (Links hand)) lists c.1 c.2 in
      let lt = submission_fits scene x (Copies bio master leg (Links hand)) lists (subst (TaskIsSound scene) c.1 (i.tasks place)) c.2 in
      let item = leg_at bio hand leg key (tree_at scene.setup bio.dev) in
      let more = submitted item lists in
      let first = leg_there scene.setup (limit_of x) g bio hand lists master leg key d lt in
      let next = legs_on (tree_at scene.setup bio.dev) bio.range leg lt in
      let part = n.leg bio hand leg key d.0 lt in
      omega (
        arith,
        copies_worth scene.setup n (limit_of x) more bio master (leg + 1) first (all_there scene.setup (limit_of x) lists.list1 d.3),
        sum_by_push ((worth scene.setup).bio (Lined (limit_of x))) lists.list0 item,
        next,
        part,
      )
  -- drops that leave a node open, and drops that close a node
  fits (moves.Told place disk carried writer key status part node) c =
      omega (arith, tells_worth scene.setup place carried writer key status part c.2, later_worth node.held.bio part)
  fits (moves.Closes place disk carried writer key status part node) c =
      omega (arith, tells_worth scene.setup place carried writer key status part c.2, later_worth node.held.bio part)
  -- gives: one element less is out
  fits (moves.Gives place disk writer number closed held) c = omega (arith, released_charge number closed.held held c.2)
  -- ends of writes, resizes and rounds: no element comes or goes
  fits (moves.Ends place disk writer closed) c = omega arith
  fits (moves.Resized place pool min later duties) c = omega arith
  fits (moves.Started place round later duties) c = omega arith

  -- each element that is out is one of these
  few : (share : LedgerId) (q : ℕ) → one_if_same share.no q ≤ 1
  few share q = omega (arith, some_of share.no q 1)

  doing_out : (q limit : ℕ) (doing : Doing) (lists : TaskLists) → DoingFits scene.setup doing lists → DoingPlaced scene.setup limit doing lists
      → doing_weight (elements_of_pool q) limit doing ≤ doing_weight (worth scene.setup) limit doing
  doing_out q limit Rests lists fit d = omega arith
  doing_out q limit (Breaks breach kept) lists fit d = omega arith
  doing_out q limit (Drives bio ToPush) lists fit d = omega (arith, few bio.share q)
  doing_out q limit (Drives bio (ToCut (Takes waits))) lists fit d = omega (arith, few bio.share q)
  doing_out q limit (Drives bio (ToCut WantsPunt)) lists fit d = omega (arith, few bio.share q)
  doing_out q limit (Drives bio (ToCut (Links hand))) lists fit d =
      omega (arith, few bio.share q, few hand.share q, cut_need scene.setup n bio (Links hand) (tree_at scene.setup bio.bio.dev) refl d.1.0.0 d.3)
  doing_out q limit (Drives bio ToRecord) lists fit d = omega (arith, few bio.share q)
  doing_out q limit (Drives bio (ToMaster slip)) lists fit d =
      let is = d.1.0.0 in
      omega (arith, few bio.share q, few slip.share q, mirror_need (tree_at scene.setup bio.bio.dev) bio.bio.range bio.bio.dev.0 slip d.3 is.some)
  doing_out q limit (Copies bio master leg (Takes waits)) lists fit d = omega arith
  doing_out q limit (Copies bio master leg WantsPunt) lists fit d = omega arith
  doing_out q limit (Copies bio master leg (Links hand)) lists fit d = omega (arith, few hand.share q, fit, legs_few (tree_at scene.setup bio.dev) bio.range leg)

  bios_out : (q : ℕ) (spot : Spot) (bios : List (Item Pad)) → sum_by ((elements_of_pool q).bio spot) bios ≤ sum_by ((worth scene.setup).bio spot) bios
  bios_out q spot bios = sum_by-le-sum_by ((elements_of_pool q).bio spot) ((worth scene.setup).bio spot) bios (λ item. omega (arith, few item.share q))

  submission_out : (q limit : ℕ) (submission : Submission) → SubmissionFits scene.setup submission → SubmissionPlaced scene.setup limit submission → submission_weight (elements_of_pool q) limit submission ≤ submission_weight (worth scene.setup) limit submission
  submission_out q limit submission fit d = omega (arith, doing_out q limit submission.doing submission.lists fit d, bios_out q (Lined limit) submission.lists.list0, bios_out q (Lined limit) submission.lists.list1)

  held_out : (q : ℕ) (held : Holding) → holding_elements q held ≤ held_count held
  held_out q held = omega (arith, by_bio held.bio, by_vector held.vector, by_slip held.slip)
    where
      by_bio : (bio : Option (Item Pad)) → weigh_option (λ (bio : Item Pad). one_if_same bio.share.no q) bio ≤ one_if_some bio
      by_bio None = omega arith
      by_bio (Some bio) = few bio.share q

      by_vector : (vector : Option VectorItem) → weigh_option (λ (vector : VectorItem). one_if_same vector.share.no q) vector ≤ one_if_some vector
      by_vector None = omega arith
      by_vector (Some vector) = few vector.share q

      by_slip : (slip : Option SlipItem) → weigh_option (λ (slip : SlipItem). one_if_same slip.share.no q) slip ≤ one_if_some slip
      by_slip None = omega arith
      by_slip (Some slip) = few slip.share q

  taken_out : (q : ℕ) (todos : List Todo) (taken : Gathered) → gathered_weight (elements_of_pool q) taken ≤ writes_need scene.setup todos taken
  taken_out q todos NoBio = omega arith
  taken_out q [] (HasBio bio) = few bio.share q
  taken_out q (todo ∷ later) (HasBio bio) = omega (arith, few bio.share q)
  taken_out q [] (HasBoth bio vector) = omega (arith, few bio.share q, few vector.share q)
  taken_out q (todo ∷ later) (HasBoth bio vector) = omega (arith, few bio.share q, few vector.share q)

  hand_free : (taken : Gathered) → gathered_weight (worth scene.setup) taken ≡ 0
  hand_free NoBio = refl
  hand_free (HasBio bio) = refl
  hand_free (HasBoth bio vector) = refl

  task_out : (q place : ℕ) (x : TaskState) → TaskIsSound scene x → TaskPlaced scene.setup x → task_weight (elements_of_pool q) place x ≤ task_weight (worth scene.setup) place x
  task_out q place (Writer number todo taken submission) fit t = omega (arith, taken_out q todo taken, hand_free taken, submission_out q 32 submission fit.1 t.1)
  task_out q place (Rescuer dev submission) fit t = submission_out q dev.0 submission fit.1 t
  task_out q place (Completer disk Empty) fit t = omega arith
  task_out q place (Completer disk (Brings bio status)) fit t = omega (arith, few bio.share q)
  task_out q place (Completer disk (Carries writer closed)) fit t = held_out q closed.held
  task_out q place (Completer disk (Fails breach kept)) fit t = omega arith
  task_out q place (Keeper keeping) fit t = omega arith

  node_out : (q writer place : ℕ) (node : Option Node) → weigh_option ((elements_of_pool q).node writer place) node ≤ weigh_option ((worth scene.setup).node writer place) node
  node_out q writer place None = omega arith
  node_out q writer place (Some node) = held_out q node.held

  sum_le : {X : Type 0} (f h : ℕ → X → ℕ) (m : ℕ) (xs : ℕ → X) → ((k : ℕ) → f k (xs k) ≤ h k (xs k)) → sum_at f m xs ≤ sum_at h m xs
  unfolding sum_at
  sum_le f h zero xs le = omega arith
  sum_le f h (suc m) xs le = omega (arith, sum_le f h m xs le, le m)

  pub outs_within : (q : ℕ) → (s.objects.pool q).facts.out ≤ total_weight scene (worth scene.setup) s
  outs_within q =
      omega (
        arith,
        i.outs q,
        sum_le (task_weight (elements_of_pool q)) (task_weight (worth scene.setup)) scene.tasks s.task (λ place. task_out q place (s.task place) (i.tasks place) (a.tasks place)),
        sum_le (λ dev bios. sum_by ((elements_of_pool q).bio Rescued) bios) (λ dev bios. sum_by ((worth scene.setup).bio Rescued) bios) scene.setup.count s.objects.rescue
            (λ dev. bios_out q Rescued (s.objects.rescue dev)),
        sum_le (λ dev (disk : DiskState). sum_by ((elements_of_pool q).bio Pending) disk.pending) (λ dev (disk : DiskState). sum_by ((worth scene.setup).bio Pending) disk.pending)
            scene.setup.count s.objects.disk (λ dev. bios_out q Pending (s.objects.disk dev).pending),
        sum_le (book_weight (elements_of_pool q)) (book_weight (worth scene.setup)) scene.books s.objects.book
            (λ writer. sum_le (λ place. weigh_option ((elements_of_pool q).node writer place)) (λ place. weigh_option ((worth scene.setup).node writer place))
            (length (s.objects.book writer).nodes) (node_at (s.objects.book writer)) (λ place. node_out q writer place (node_at (s.objects.book writer) place))),
      )

  pub stays_within : (m : Move) → Can scene s m → total_weight scene (worth scene.setup) (after scene s m) ≤ total_weight scene (worth scene.setup) s
  stays_within m c = omega (arith, delta scene (worth scene.setup) s m c, fits m c)
