-- What each event does to what is charged and spent.
use Rattle.std.proofs.Common.{◌≡◌, ◌+◌, ◌*◌, ◌<◌, ◌≤◌, if◌then◌else◌, ℕ, Bool, true, false, List, [], ◌∷◌, filter, Option, None, Some, inl, inr, refl, ap, subst, arith}
use Rattle.std.proofs.lemmas.List.Sums.{sum_by-cons, sum_by-append, sum_by_push}
use Rattle.stack_base.specs.PoolId.{pool_number}
use Rattle.stack_base.specs.Tree.{Split}
use Rattle.stack_base.specs.declared.ids.SetId.TheVariants.{Of}
use Rattle.stack_base.proofs.ListLemmas.{Each}
use Rattle.mempool_core.specs.Move.{PoolMove, after_move, misses, gives, resizes}
use Rattle.bio_records.specs.declared.bio.Pad.{Pad}
use Rattle.bio_records.specs.Items.{Item}
use Rattle.bio_records.specs.Sorting.{is_of}
use Rattle.bio_lists.specs.Submission.{submitted}
use Rattle.bio_lists.specs.Punt.{unpunted}
use Rattle.bio_books.specs.Books.{VectorItem, parent_of, told}
use Rattle.bio_books.specs.Drops.{closed_of}
use Rattle.run_machine.specs.Maps.{upd}
use Rattle.run_machine.specs.Scene.{Scene, tree_at}
use Rattle.run_machine.specs.Submissions.{Takes, WantsPunt, Links, ToPush, ToCut, ToRecord, ToMaster, Drives, Copies, Submission, rests, settled, goes_on, copies, first_length, leg_at}
use Rattle.run_machine.specs.Tasks.{Writer, Rescuer, Completer, Keeper, Keeps, Resizes, Starts, Todo, NoBio, HasBio, HasBoth, Empty, Brings, Carries}
use Rattle.run_machine.specs.Objects.{clear_bio, clear_vector, clear_slip}
use Rattle.run_machine.specs.Runs.{State}
use Rattle.block_core.specs.Weights.{Weight, Rescued, Lined, carried_weight, task_weight, submission_weight}
use Rattle.block_core.specs.Touches.{is_master}
use Rattle.block_core.specs.Charges.{bio_charge, write_run, vector_charge, end_charge, held_charge, close_charge, charge, task_spent, duty_charge, task_charge, charged, spent_charges}
use Rattle.block_core.specs.Payers.{Paid, WriteBio, WriteVector, ScriptEntry, cost}
use Rattle.block_core.specs.Payers as paid
use Rattle.block_core.proofs.moves.Moves.{Move, place_of, Can, after, limit_of, with_want, filled_of, cut_lists, piece}
use Rattle.block_core.proofs.moves.PaidKinds.{kind_of}
use Rattle.block_core.proofs.moves.Moves as moves
use Rattle.block_core.proofs.moves.Sums.{upd-same, upd-other}
use Rattle.block_core.proofs.sound.Misplaced.{was_after}
use Rattle.block_core.proofs.sound.Splitting.{IsSameButClosed, total_but}
use Rattle.block_core.proofs.sound.Invariant.{TaskIsSound, Invariant}
use Rattle.block_core.proofs.sound.Orders.{IsOwn, AskFits, TodoThere, TaskPlaced, Placed, DeviceGeometry}
use Rattle.block_core.proofs.bound.TaskCharges.{charge_lands, copies_charge, pops_once, pops_not, punts_charge, later_charge, takes_spent, want_spends, new_spends, wants_below, on_tasks, on_submission, tells_charge, later_give, released_price}
use Rattle.block_core.proofs.bound.PoolPayers.{is_write_bio, is_write_vector, is_piece_bio, is_record, leg_bio}
use Rattle.block_core.proofs.bound.DeviceCharges.{Priced, leaf_charge, mirror_charge, legs_next}
use Rattle.block_core.proofs.moves.Deltas.{delta}
use Rattle.block_core.proofs.sound.TaskSubmissions.{submission_fits}
use Rattle.block_core.proofs.sound.Orders.{waiting_placed}
use Rattle.block_core.proofs.sound.OrdersKept.{placed_at, record_own}
use Rattle.block_core.proofs.moves.Landings.{IsLanding, settled_there, goes_there, all_there, none_there, cut_there, leg_there}
use Rattle.block_core.proofs.sound.SumParts.{cut_weight}
use Rattle.std.proofs.Math.Nat.{mul-le-mul_left, mul-add}
use Rattle.block_core.proofs.bound.EntriesLeft.{all_entries, pools_left, pools_used}

-- as much more costs as much more
costs_less : (each old new : ℕ) → new ≤ old → each * new ≤ each * old
costs_less each old new le = mul-le-mul_left each le

costs_one : (each old new : ℕ) → new + 1 ≤ old → each * new + each ≤ each * old
costs_one each old new le = let all : each * (new + 1) ≤ each * old = mul-le-mul_left each le in omega (arith, all, mul-add each new 1)

module _ (price : Paid → ℕ) (was_master : ℕ → Bool) (scene : Scene) (s : State) (g : DeviceGeometry scene.setup) (p : Priced price scene.setup) (i : Invariant scene s) (a : Placed scene.setup s) where
  abbrev w : Weight
  w = charge price was_master scene.setup

  -- an event lowers what is charged and not spent by its price
  abbrev Lowers : Move → Type 0
  Lowers m =
      charged price (was_after was_master m) scene (after scene s m) + spent_charges price scene s + price (kind_of (was_master (place_of m)) m)
      ≤ charged price was_master scene s + spent_charges price scene (after scene s m)

  lands : IsLanding scene.setup w
  lands = charge_lands price was_master scene.setup p

  -- the entries that are left cost no more than before
  fewer : (number : ℕ) (move : PoolMove)
      → cost price ScriptEntry * all_entries (upd s.objects.pool number (after_move (s.objects.pool number) move)) ≤ cost price ScriptEntry * all_entries s.objects.pool
  fewer number move = costs_less (cost price ScriptEntry) _ _ (pools_left s.objects.pool number move)

  numbered : (number : ℕ) → moves.IsNumber scene number → number < 66
  numbered number (inl low) = let few = g.few in omega arith
  numbered number (inr low) = low

  begins : (place writer : ℕ) (todo : Todo) (later : List Todo) (item : Item Pad) (vector : Option VectorItem) (key : ℕ) → Can scene s (moves.Begins place writer todo later item vector key)
      → TodoThere scene.setup writer todo → item.share.no ≡ 65
      → submission_weight w 32 (settled scene.setup (filled_of writer todo item vector key ∷ [])) ≤ end_charge price WriteBio + write_run price scene.setup todo
  begins place writer todo later item None key c fits home =
      let filled_item : Item Pad = filled_of writer todo item None key in
      let b = settled_there scene.setup w lands 32 (filled_item ∷ []) (fits key, tt) in
      let ends = ap (end_charge price) (is_write_bio item.share.no home) in
      omega (arith, ends, b, sum_by-cons (bio_charge price scene.setup (Lined 32)) filled_item [], pops_not price 32 item.share.no (omega (arith, home)))
  begins place writer todo later item (Some vector) key c fits home =
      let filled_item : Item Pad = filled_of writer todo item (Some vector) key in
      let b = settled_there scene.setup w lands 32 (filled_item ∷ []) (fits key, tt) in
      let ends = ap (end_charge price) (is_write_bio item.share.no home) in
      omega (arith, ends, b, sum_by-cons (bio_charge price scene.setup (Lined 32)) filled_item [], pops_not price 32 item.share.no (omega (arith, home)))

  pub lowers : (m : Move) → Can scene s m → Lowers m
  -- takes
  lowers (moves.TakesFirst place writer todo later move) c =
      let x = Writer writer (todo ∷ later) NoBio rests in
      let y = Writer writer (todo ∷ later) (HasBio (clear_bio (scene.ledger 65))) rests in
      omega (
        arith,
        delta scene w s (moves.TakesFirst place writer todo later move) c,
        on_tasks (task_spent price) scene s place x y c.0 c.1,
        on_tasks (task_charge price) scene s place x y c.0 c.1,
        fewer 65 move,
      )
  lowers (moves.TakesVector place writer todo later item move) c =
      let x = Writer writer (todo ∷ later) (HasBio item) rests in
      let y = Writer writer (todo ∷ later) (HasBoth item (clear_vector (scene.ledger 64))) rests in
      let v : vector_charge price todo.write ≡ cost price WriteVector = ap (λ (b : Bool). if b then cost price WriteVector else 0) c.4 in
      omega (
        arith,
        v,
        delta scene w s (moves.TakesVector place writer todo later item move) c,
        on_tasks (task_spent price) scene s place x y c.0 c.1,
        on_tasks (task_charge price) scene s place x y c.0 c.1,
        fewer 64 move,
      )
  lowers (moves.TakesSub place x doing lists dev waits move) c =
      let new : Submission = record { doing = with_want doing (Links (clear_bio (scene.ledger (2 * dev.0)))); lists = lists } in
      let t = on_submission scene s place x doing lists new c.0 c.1 c.2 in
      omega (
        arith,
        delta scene w s (moves.TakesSub place x doing lists dev waits move) c,
        (t.0 price).0,
        (t.0 price).1,
        want_spends price doing dev (Takes waits) c.3,
        takes_spent price waits,
        new_spends price doing dev (Takes waits) (Links (clear_bio (scene.ledger (2 * dev.0)))) c.3,
        fewer (2 * dev.0) move,
      )
  lowers (moves.TakesSlip place x bio lists move) c =
      let new : Submission = record { doing = Drives bio (ToMaster (clear_slip (scene.ledger (2 * bio.bio.dev.0 + 1)))); lists = lists } in
      let t = on_submission scene s place x (Drives bio ToRecord) lists new c.0 c.1 c.2 in
      omega (arith, delta scene w s (moves.TakesSlip place x bio lists move) c, (t.0 price).0, (t.0 price).1, fewer (2 * bio.bio.dev.0 + 1) move)
  -- misses
  lowers (moves.MissesOne place x number used) c =
      omega (
        arith,
        delta scene w s (moves.MissesOne place x number used) c,
        on_tasks (task_spent price) scene s place x x c.0 c.1,
        on_tasks (task_charge price) scene s place x x c.0 c.1,
        costs_one (cost price ScriptEntry) _ _ (pools_used s.objects.pool number used (numbered number c.5) c.2.1 c.4),
      )
  lowers (moves.MissesTry place x doing lists dev used) c =
      let new : Submission = record { doing = with_want doing WantsPunt; lists = lists } in
      let t = on_submission scene s place x doing lists new c.0 c.1 c.2 in
      omega (
        arith,
        delta scene w s (moves.MissesTry place x doing lists dev used) c,
        (t.0 price).0,
        (t.0 price).1,
        want_spends price doing dev (Takes false) c.3,
        new_spends price doing dev (Takes false) WantsPunt c.3,
        fewer (2 * dev.0) (misses used),
      )
  -- punts
  lowers (moves.Punts place x doing lists dev) c =
      let new : Submission = record { doing = with_want doing (Takes true); lists = unpunted (Of dev) lists } in
      let t = on_submission scene s place x doing lists new c.0 c.1 c.2 in
      let d = placed_at scene.setup s a place x doing lists c.1 c.2 in
      let at = waiting_placed scene.setup g (limit_of x) doing dev WantsPunt lists c.3 d in
      let low = wants_below scene.setup (limit_of x) doing dev WantsPunt lists c.3 d in
      omega (
        arith,
        delta scene w s (moves.Punts place x doing lists dev) c,
        (t.0 price).0,
        (t.0 price).1,
        want_spends price doing dev WantsPunt c.3,
        new_spends price doing dev WantsPunt (Takes true) c.3,
        sum_by-append (bio_charge price scene.setup Rescued) (filter (is_of (Of dev)) lists.list0) (filter (is_of (Of dev)) lists.list1),
        sum_by-append (bio_charge price scene.setup (Lined (limit_of x))) (filter (is_of (Of dev)) lists.list0) (filter (is_of (Of dev)) lists.list1),
        punts_charge price scene.setup (limit_of x) dev lists.list0 low at.0,
        punts_charge price scene.setup (limit_of x) dev lists.list1 low at.1,
      )
  -- pops
  lowers (moves.Pops place dev bio bios) c =
      let r : Each (IsOwn scene.setup dev.0 dev.0) (bio ∷ bios) = subst (Each (IsOwn scene.setup dev.0 dev.0)) c.3 (a.rescued dev.0) in
      let x = Rescuer dev rests in
      let y = Rescuer dev (settled scene.setup (bio ∷ [])) in
      let own = r.0.1 in
      omega (
        arith,
        delta scene w s (moves.Pops place dev bio bios) c,
        on_tasks (task_spent price) scene s place x y c.0 c.1,
        on_tasks (task_charge price) scene s place x y c.0 c.1,
        settled_there scene.setup w lands dev.0 (bio ∷ []) (r.0.0.0, tt),
        sum_by-cons (bio_charge price scene.setup (Lined dev.0)) bio [],
        pops_not price dev.0 bio.share.no (omega (arith, own)),
      )
  -- pushes
  lowers (moves.Pushes place x bio lists) c =
      let d = placed_at scene.setup s a place x (Drives bio ToPush) lists c.1 c.2 in
      let t = on_submission scene s place x (Drives bio ToPush) lists (goes_on scene.setup bio.bio.dev lists) c.0 c.1 c.2 in
      let b = goes_there scene.setup w lands (limit_of x) bio.bio.dev lists (none_there scene.setup (limit_of x) lists d.0) (all_there scene.setup (limit_of x) lists.list1 d.1.1) in
      let is = d.1.0.0 in
      omega (
        arith,
        delta scene w s (moves.Pushes place x bio lists) c,
        (t.0 price).0,
        (t.0 price).1,
        b,
        leaf_charge price (tree_at scene.setup bio.bio.dev) bio.bio.range bio.bio.dev.0 d.3 is.some,
      )
  -- completions
  lowers (moves.Completed place disk index bio status new) c =
      let x = Completer disk Empty in
      let y = Completer disk (Brings bio status) in
      omega (arith, delta scene w s (moves.Completed place disk index bio status new) c, on_tasks (task_spent price) scene s place x y c.0 c.1, on_tasks (task_charge price) scene s place x y c.0 c.1)
  -- links of writes
  lowers (moves.Begins place writer todo later item None key) c =
      let x = Writer writer (todo ∷ later) (HasBio item) rests in
      let y = Writer writer later NoBio (settled scene.setup (filled_of writer todo item None key ∷ [])) in
      let t : TaskPlaced scene.setup x = subst (TaskPlaced scene.setup) c.1 (a.tasks place) in
      omega (
        arith,
        delta scene w s (moves.Begins place writer todo later item None key) c,
        on_tasks (task_spent price) scene s place x y c.0 c.1,
        on_tasks (task_charge price) scene s place x y c.0 c.1,
        begins place writer todo later item None key c t.0.0 t.2,
        later_charge price scene.setup later,
      )
  lowers (moves.Begins place writer todo later item (Some vector) key) c =
      let x = Writer writer (todo ∷ later) (HasBoth item vector) rests in
      let y = Writer writer later NoBio (settled scene.setup (filled_of writer todo item (Some vector) key ∷ [])) in
      let t : TaskPlaced scene.setup x = subst (TaskPlaced scene.setup) c.1 (a.tasks place) in
      omega (
        arith,
        delta scene w s (moves.Begins place writer todo later item (Some vector) key) c,
        on_tasks (task_spent price) scene s place x y c.0 c.1,
        on_tasks (task_charge price) scene s place x y c.0 c.1,
        ap (λ payer. price (paid.IsGiven payer)) (is_write_vector vector.share.no t.2.1),
        begins place writer todo later item (Some vector) key c t.0.0 t.2.0,
        later_charge price scene.setup later,
      )
  -- links of pieces
  lowers (moves.Chained place x bio lists hand number kind sizes members key node) c =
      let n = first_length kind sizes bio.bio.range in
      let new : Submission = goes_on scene.setup bio.bio.dev (cut_lists bio lists hand n key kind sizes members) in
      let child = piece bio hand n key kind sizes members in
      let d = placed_at scene.setup s a place x (Drives bio (ToCut (Links hand))) lists c.1 c.2 in
      let cuts = cut_there scene.setup (limit_of x) g bio hand lists key number kind sizes members d c.3 in
      let known = d.1.0.0.device in
      let few = g.few in
      let suits : AskFits (Split number kind sizes members) bio.bio.range bio.bio.dev.0 (ToCut (Links hand)) =
      subst (λ t. AskFits t bio.bio.range bio.bio.dev.0 (ToCut (Links hand))) c.3 d.3 in
      let t = on_submission scene s place x (Drives bio (ToCut (Links hand))) lists new c.0 c.1 c.2 in
      omega (
        arith,
        delta scene w s (moves.Chained place x bio lists hand number kind sizes members key node) c,
        (t.0 price).0,
        (t.0 price).1,
        goes_there scene.setup w lands (limit_of x) bio.bio.dev (cut_lists bio lists hand n key kind sizes members) cuts.1 (all_there scene.setup (limit_of x) lists.list1 d.1.1),
        cut_weight (bio_charge price scene.setup (Lined (limit_of x))) bio lists hand n key kind sizes members,
        p.cut bio hand key number kind sizes members d.1.0.0 c.3 cuts.0,
        pops_once price (limit_of x) child.share.no,
        ap (end_charge price) (is_piece_bio hand.share.no bio.bio.dev.0 suits.1 (omega (arith, known, few))),
      )
  -- links of masters
  lowers (moves.Mastered place x bio lists slip key node) c =
      let d = placed_at scene.setup s a place x (Drives bio (ToMaster slip)) lists c.1 c.2 in
      let t = on_submission scene s place x (Drives bio (ToMaster slip)) lists (copies scene.setup lists bio.bio key 0) c.0 c.1 c.2 in
      let known = d.1.0.0.device in
      let few = g.few in
      let is = d.1.0.0 in
      omega (
        arith,
        delta scene w s (moves.Mastered place x bio lists slip key node) c,
        (t.0 price).0,
        (t.0 price).1,
        copies_charge price was_master scene.setup p (limit_of x) lists bio.bio key 0 (none_there scene.setup (limit_of x) lists d.0) (all_there scene.setup (limit_of x) lists.list1 d.1.1),
        mirror_charge price (tree_at scene.setup bio.bio.dev) bio.bio.range bio.bio.dev.0 slip d.3 is.some,
        ap (λ payer. price (paid.IsGiven payer)) (is_record slip.share.no bio.bio.dev.0 (record_own (tree_at scene.setup bio.bio.dev) bio.bio.range bio.bio.dev.0 slip d.3) (omega (arith, known, few))),
      )
  -- links of legs
  lowers (moves.Legged place x bio lists master leg hand key node) c =
      let d = placed_at scene.setup s a place x (Copies bio master leg (Links hand)) lists c.1 c.2 in
      let known = d.0.device in
      let few = g.few in
      let lt = submission_fits scene x (Copies bio master leg (Links hand)) lists (subst (TaskIsSound scene) c.1 (i.tasks place)) c.2 in
      let item = leg_at bio hand leg key (tree_at scene.setup bio.dev) in
      let more = submitted item lists in
      let first = leg_there scene.setup (limit_of x) g bio hand lists master leg key d lt in
      let t = on_submission scene s place x (Copies bio master leg (Links hand)) lists (copies scene.setup more bio master (leg + 1)) c.0 c.1 c.2 in
      omega (
        arith,
        delta scene w s (moves.Legged place x bio lists master leg hand key node) c,
        (t.0 price).0,
        (t.0 price).1,
        copies_charge price was_master scene.setup p (limit_of x) more bio master (leg + 1) first (all_there scene.setup (limit_of x) lists.list1 d.3),
        sum_by_push (bio_charge price scene.setup (Lined (limit_of x))) lists.list0 item,
        p.leg bio hand leg key d.0 lt,
        legs_next price (tree_at scene.setup bio.dev) bio.range leg lt,
        pops_once price (limit_of x) item.share.no,
        ap (end_charge price) (is_piece_bio item.share.no bio.dev.0 (leg_bio bio hand leg key (2 * bio.dev.0) (tree_at scene.setup bio.dev) lt d.6) (omega (arith, known, few))),
      )
  -- drops that leave a node open
  lowers (moves.Told place disk carried writer key status part node) c =
      let x = Completer disk carried in
      let y = Completer disk Empty in
      omega (
        arith,
        delta scene w s (moves.Told place disk carried writer key status part node) c,
        on_tasks (task_spent price) scene s place x y c.0 c.1,
        on_tasks (task_charge price) scene s place x y c.0 c.1,
        tells_charge price was_master scene.setup place carried writer key status part c.2,
        later_give price node.held.bio part,
      )
  -- drops that close a node
  lowers (moves.Closes place disk carried writer key status part node) c =
      let m : Move = moves.Closes place disk carried writer key status part node in
      let x = Completer disk carried in
      let y = Completer disk (Carries writer (closed_of (told node status part))) in
      let other = upd was_master place (is_master node.role) in
      let new = charge price other scene.setup in
      let here : task_weight new place (s.task place) ≡ carried_weight new place carried = ap (task_weight new place) c.1 in
      let old : task_weight w place (s.task place) ≡ carried_weight w place carried = ap (task_weight w place) c.1 in
      let kind : close_charge price (other place) (parent_of node.role) ≡ close_charge price (is_master node.role) (parent_of node.role) =
      ap (λ b. close_charge price b (parent_of node.role)) (upd-same was_master place (is_master node.role)) in
      let same : IsSameButClosed new w = record { todo = refl; bio = refl; copy = refl; hand = refl; vector = refl; slip = refl; node = refl } in
      let off = total_but new w same scene s place c.0
      (λ j ne of closed. ap (λ b. close_charge price b closed.parent + held_charge price closed.held) (upd-other was_master place (is_master node.role) j ne)) in
      omega (
        arith,
        delta scene new s m c,
        here,
        old,
        kind,
        off,
        on_tasks (task_spent price) scene s place x y c.0 c.1,
        on_tasks (task_charge price) scene s place x y c.0 c.1,
        tells_charge price was_master scene.setup place carried writer key status part c.2,
        later_give price node.held.bio part,
      )
  lowers (moves.Gives place disk writer number closed held) c =
      let x = Completer disk (Carries writer closed) in
      let y = Completer disk (Carries writer (record closed { held = held })) in
      omega (
        arith,
        delta scene w s (moves.Gives place disk writer number closed held) c,
        on_tasks (task_spent price) scene s place x y c.0 c.1,
        on_tasks (task_charge price) scene s place x y c.0 c.1,
        released_price price number closed.held held c.2,
        fewer number gives,
      )
  -- ends of writes
  lowers (moves.Ends place disk writer closed) c =
      let x = Completer disk (Carries writer closed) in
      let y = Completer disk Empty in
      let top : close_charge price (was_master place) closed.parent ≡ price paid.IsDone = ap (close_charge price (was_master place)) c.3 in
      omega (
        arith,
        top,
        delta scene w s (moves.Ends place disk writer closed) c,
        on_tasks (task_spent price) scene s place x y c.0 c.1,
        on_tasks (task_charge price) scene s place x y c.0 c.1,
      )
  -- resizes
  lowers (moves.Resized place pool min later duties) c =
      let x = Keeper (Keeps (Resizes pool min later ∷ duties)) in
      let y = Keeper (Keeps duties) in
      omega (
        arith,
        delta scene w s (moves.Resized place pool min later duties) c,
        on_tasks (task_spent price) scene s place x y c.0 c.1,
        on_tasks (task_charge price) scene s place x y c.0 c.1,
        sum_by-cons (duty_charge price) (Resizes pool min later) duties,
        fewer (pool_number pool) (resizes min),
      )
  -- rounds
  lowers (moves.Started place round later duties) c =
      let x = Keeper (Keeps (Starts round later ∷ duties)) in
      let y = Keeper (Keeps duties) in
      omega (
        arith,
        delta scene w s (moves.Started place round later duties) c,
        on_tasks (task_spent price) scene s place x y c.0 c.1,
        on_tasks (task_charge price) scene s place x y c.0 c.1,
        sum_by-cons (duty_charge price) (Starts round later) duties,
      )
