-- Where no take misses, each event takes one from what is still to come.
use Rattle.std.proofs.Common.{◌≡◌, ◌+◌, ◌*◌, ◌==◌, if◌then◌else◌, Bool, [], ◌∷◌, None, Some, refl, ap, subst, arith}
use Rattle.std.specs.Prelude.{sum_by}
use Rattle.std.proofs.lemmas.List.Sums.{sum_by-cons, sum_by_push}
use Rattle.stack_base.specs.Tree.{Tree, Leaf, Split, Mirrored}
use Rattle.layout_model.specs.Need.{needed, vectors}
use Rattle.layout_model.proofs.NeedsByPieces.{needed_disk}
use Rattle.bio_records.specs.declared.bio.Pad.{Pad}
use Rattle.bio_records.specs.Items.{Item}
use Rattle.bio_lists.specs.Submission.{submitted}
use Rattle.bio_books.specs.Books.{told}
use Rattle.bio_books.specs.Drops.{closed_of}
use Rattle.run_machine.specs.Scene.{Scene, tree_at}
use Rattle.run_machine.specs.Submissions.{Links, ToPush, ToCut, ToRecord, ToMaster, Drives, Copies, Submission, rests, settled, goes_on, copies, first_length, legs_of, leg_at}
use Rattle.run_machine.specs.Tasks.{Writer, Completer, Keeper, Keeps, Resizes, Starts, NoBio, HasBio, HasBoth, Empty, Brings, Carries}
use Rattle.run_machine.specs.Objects.{clear_bio, clear_vector, clear_slip}
use Rattle.run_machine.specs.Runs.{State}
use Rattle.block_core.specs.Weights.{Weight, Lined, total_weight}
use Rattle.block_core.specs.Charges.{one_if_some, task_duties}
use Rattle.block_core.specs.Fragments.{leg_fragments}
use Rattle.block_core.proofs.moves.Moves.{Move, Can, after, limit_of, with_want, filled_of, cut_lists}
use Rattle.block_core.proofs.moves.Moves as moves
use Rattle.block_core.proofs.moves.Deltas.{delta}
use Rattle.block_core.proofs.sound.Invariant.{TaskIsSound, LedgersAreNumbered, Invariant}
use Rattle.block_core.proofs.sound.Orders.{AskFits, TaskPlaced, Placed, DeviceGeometry}
use Rattle.block_core.proofs.sound.OrdersKept.{placed_at}
use Rattle.block_core.proofs.sound.TaskSubmissions.{submission_fits}
use Rattle.block_core.proofs.moves.SubmissionWeights.{first_weight, goes_weight}
use Rattle.block_core.proofs.moves.Landings.{settled_there, goes_there, all_there, none_there, cut_there, leg_there}
use Rattle.block_core.proofs.sound.SumParts.{cut_weight, copies_weight, unless_none, is_away}
use Rattle.block_core.proofs.unrefused.NodeNeeds.{Needs, mirror_need, legs_on}
use Rattle.block_core.proofs.images.FragmentCounts.{Divided, IsCounted, mirror_worth, legs_next}
use Rattle.block_core.proofs.moves.Misfits.{misfits, cut_fits}
use Rattle.block_core.proofs.images.StillToCome.{over}
use Rattle.block_core.proofs.bound.TaskCharges.{on_tasks, on_submission, released_charge, all_duties}
use Rattle.block_core.proofs.images.MasterRecords.{zeros}
use Rattle.block_core.proofs.sound.OwnParts.{closing_own}
use Rattle.block_core.proofs.bound.RoleHoldings.{odd, odd_holding}
use Rattle.block_core.proofs.stuck.Idle.{node_part}
use Rattle.block_core.proofs.bound.EventsDue.{one_each, bio_due, due, in_hand, IsHad, blind, bare_none, later_due, tells_due, carried_hand, closes_one, lands, copies_due}

module _ (scene : Scene) (s : State) (f : LedgersAreNumbered scene) (g : DeviceGeometry scene.setup) (p : Needs scene.setup) (v : Divided scene.setup one_each) (i : Invariant scene s) (a : Placed scene.setup s)
    (counted : total_weight scene (misfits over) s ≡ 0) (held : total_weight scene odd s ≡ 0) where
  abbrev w : Weight
  w = due scene.setup

  -- what an event does to the sums
  abbrev Lowers : Move → Type 0
  Lowers m =
      total_weight scene w (after scene s m) + total_weight scene in_hand s + all_duties scene (after scene s m).task + 1
      ≡ total_weight scene w s + total_weight scene in_hand (after scene s m) + all_duties scene s.task

  pub takes_one : (m : Move) → Can scene s m → IsHad m → Lowers m
  -- takes
  takes_one (moves.TakesFirst place writer todo later move) c h =
      let m : Move = moves.TakesFirst place writer todo later move in
      let x = Writer writer (todo ∷ later) NoBio rests in
      let y = Writer writer (todo ∷ later) (HasBio (clear_bio (scene.ledger 65))) rests in
      omega (arith, delta scene w s m c, delta scene in_hand s m c, on_tasks task_duties scene s place x y c.0 c.1)
  takes_one (moves.TakesVector place writer todo later item move) c h =
      let m : Move = moves.TakesVector place writer todo later item move in
      let x = Writer writer (todo ∷ later) (HasBio item) rests in
      let y = Writer writer (todo ∷ later) (HasBoth item (clear_vector (scene.ledger 64))) rests in
      let needs : vectors todo.write.count ≡ 1 = ap (λ (b : Bool). if b then 1 else 0) c.4 in
      omega (arith, needs, delta scene w s m c, delta scene in_hand s m c, on_tasks task_duties scene s place x y c.0 c.1)
  takes_one (moves.TakesSub place x doing lists dev waits move) c h =
      let m : Move = moves.TakesSub place x doing lists dev waits move in
      let new : Submission = record { doing = with_want doing (Links (clear_bio (scene.ledger (2 * dev.0)))); lists = lists } in
      omega (arith, delta scene w s m c, delta scene in_hand s m c, (on_submission scene s place x doing lists new c.0 c.1 c.2).1)
  takes_one (moves.TakesSlip place x bio lists move) c h =
      let m : Move = moves.TakesSlip place x bio lists move in
      let new : Submission = record { doing = Drives bio (ToMaster (clear_slip (scene.ledger (2 * bio.bio.dev.0 + 1)))); lists = lists } in
      omega (arith, delta scene w s m c, delta scene in_hand s m c, (on_submission scene s place x (Drives bio ToRecord) lists new c.0 c.1 c.2).1)
  -- misses, punts and pops
  takes_one (moves.MissesOne place x number used) c h = absurd h
  takes_one (moves.MissesTry place x doing lists dev used) c h = absurd h
  takes_one (moves.Punts place x doing lists dev) c h = absurd h
  takes_one (moves.Pops place dev bio bios) c h = absurd h
  -- pushes
  takes_one (moves.Pushes place x bio lists) c h =
      let m : Move = moves.Pushes place x bio lists in
      let d = placed_at scene.setup s a place x (Drives bio ToPush) lists c.1 c.2 in
      omega (
        arith,
        delta scene w s m c,
        delta scene in_hand s m c,
        (on_submission scene s place x (Drives bio ToPush) lists (goes_on scene.setup bio.bio.dev lists) c.0 c.1 c.2).1,
        goes_weight in_hand blind (limit_of x) scene.setup bio.bio.dev lists,
        zeros lists.list0,
        zeros lists.list1,
        goes_there scene.setup w (lands scene.setup p v) (limit_of x) bio.bio.dev lists (none_there scene.setup (limit_of x) lists d.0) (all_there scene.setup (limit_of x) lists.list1 d.1.1),
        v.disk bio.bio d.1.0.0 d.3,
        at_disk (tree_at scene.setup bio.bio.dev) d.3,
      )
    where
      at_disk : (t : Tree) → AskFits t bio.bio.range bio.bio.dev.0 ToPush → needed t bio.bio.range.start bio.bio.range.len ≡ 0
      at_disk (Leaf number sectors) fits = needed_disk number sectors bio.bio.range.start bio.bio.range.len
      at_disk (Split number kind sizes members) fits = absurd fits
      at_disk (Mirrored number sizes members) fits = absurd fits
  -- completions
  takes_one (moves.Completed place disk index bio status new) c h =
      let m : Move = moves.Completed place disk index bio status new in
      omega (arith, delta scene w s m c, delta scene in_hand s m c, on_tasks task_duties scene s place (Completer disk Empty) (Completer disk (Brings bio status)) c.0 c.1)
  -- links of writes
  takes_one (moves.Begins place writer todo later item None key) c h =
      let m : Move = moves.Begins place writer todo later item None key in
      let x = Writer writer (todo ∷ later) (HasBio item) rests in
      let first : Item Pad = filled_of writer todo item None key in
      let y = Writer writer later NoBio (settled scene.setup (first ∷ [])) in
      let t : TaskPlaced scene.setup x = subst (TaskPlaced scene.setup) c.1 (a.tasks place) in
      omega (
        arith,
        delta scene w s m c,
        delta scene in_hand s m c,
        on_tasks task_duties scene s place x y c.0 c.1,
        first_weight in_hand blind 32 scene.setup (first ∷ []),
        zeros (first ∷ []),
        settled_there scene.setup w (lands scene.setup p v) 32 (first ∷ []) (t.0.0 key, tt),
        sum_by-cons (bio_due scene.setup (Lined 32)) first [],
        bare_none todo c.4,
        later_due scene.setup later,
      )
  takes_one (moves.Begins place writer todo later item (Some vector) key) c h =
      let m : Move = moves.Begins place writer todo later item (Some vector) key in
      let x = Writer writer (todo ∷ later) (HasBoth item vector) rests in
      let first : Item Pad = filled_of writer todo item (Some vector) key in
      let y = Writer writer later NoBio (settled scene.setup (first ∷ [])) in
      let t : TaskPlaced scene.setup x = subst (TaskPlaced scene.setup) c.1 (a.tasks place) in
      omega (
        arith,
        delta scene w s m c,
        delta scene in_hand s m c,
        on_tasks task_duties scene s place x y c.0 c.1,
        first_weight in_hand blind 32 scene.setup (first ∷ []),
        zeros (first ∷ []),
        settled_there scene.setup w (lands scene.setup p v) 32 (first ∷ []) (t.0.0 key, tt),
        sum_by-cons (bio_due scene.setup (Lined 32)) first [],
        later_due scene.setup later,
      )
  -- links of pieces
  takes_one (moves.Chained place x bio lists hand number kind sizes members key node) c h =
      let m : Move = moves.Chained place x bio lists hand number kind sizes members key node in
      let n = first_length kind sizes bio.bio.range in
      let cut = cut_lists bio lists hand n key kind sizes members in
      let d = placed_at scene.setup s a place x (Drives bio (ToCut (Links hand))) lists c.1 c.2 in
      let cuts = cut_there scene.setup (limit_of x) g bio hand lists key number kind sizes members d c.3 in
      let fits : over bio.bio ≡ 0 = cut_fits over scene s counted place x bio hand lists c.0 c.1 c.2 in
      let small : IsCounted bio.bio = omega (arith, fits) in
      omega (
        arith,
        delta scene w s m c,
        delta scene in_hand s m c,
        (on_submission scene s place x (Drives bio (ToCut (Links hand))) lists (goes_on scene.setup bio.bio.dev cut) c.0 c.1 c.2).1,
        goes_weight in_hand blind (limit_of x) scene.setup bio.bio.dev cut,
        zeros cut.list0,
        zeros cut.list1,
        zeros lists.list0,
        goes_there scene.setup w (lands scene.setup p v) (limit_of x) bio.bio.dev cut cuts.1 (all_there scene.setup (limit_of x) lists.list1 d.1.1),
        cut_weight (bio_due scene.setup (Lined (limit_of x))) bio lists hand n key kind sizes members,
        p.cut bio hand key number kind sizes members d.1.0.0 c.3 cuts.0,
        v.cut bio hand key number kind sizes members d.1.0.0 small c.3 cuts.0,
      )
  -- links of masters
  takes_one (moves.Mastered place x bio lists slip key node) c h =
      let m : Move = moves.Mastered place x bio lists slip key node in
      let d = placed_at scene.setup s a place x (Drives bio (ToMaster slip)) lists c.1 c.2 in
      let legs = legs_of (tree_at scene.setup bio.bio.dev) in
      omega (
        arith,
        delta scene w s m c,
        delta scene in_hand s m c,
        (on_submission scene s place x (Drives bio (ToMaster slip)) lists (copies scene.setup lists bio.bio key 0) c.0 c.1 c.2).1,
        copies_weight in_hand blind (limit_of x) scene.setup lists bio.bio key 0,
        unless_none (0 == legs),
        zeros lists.list0,
        zeros lists.list1,
        copies_due scene.setup p v (limit_of x) lists bio.bio key 0 (none_there scene.setup (limit_of x) lists d.0) (all_there scene.setup (limit_of x) lists.list1 d.1.1),
        mirror_worth (tree_at scene.setup bio.bio.dev) one_each bio.bio bio.bio.range bio.bio.dev.0 slip d.3,
        mirror_need (tree_at scene.setup bio.bio.dev) bio.bio.range bio.bio.dev.0 slip d.3 d.1.0.0.some,
      )
  -- links of legs
  takes_one (moves.Legged place x bio lists master leg hand key node) c h =
      let m : Move = moves.Legged place x bio lists master leg hand key node in
      let d = placed_at scene.setup s a place x (Copies bio master leg (Links hand)) lists c.1 c.2 in
      let lt = submission_fits scene x (Copies bio master leg (Links hand)) lists (subst (TaskIsSound scene) c.1 (i.tasks place)) c.2 in
      let item = leg_at bio hand leg key (tree_at scene.setup bio.dev) in
      let more = submitted item lists in
      let legs = legs_of (tree_at scene.setup bio.dev) in
      omega (
        arith,
        delta scene w s m c,
        delta scene in_hand s m c,
        (on_submission scene s place x (Copies bio master leg (Links hand)) lists (copies scene.setup more bio master (leg + 1)) c.0 c.1 c.2).1,
        copies_weight in_hand blind (limit_of x) scene.setup more bio master (leg + 1),
        unless_none (leg + 1 == legs),
        zeros more.list0,
        zeros lists.list0,
        zeros lists.list1,
        copies_due scene.setup p v (limit_of x) more bio master (leg + 1) (leg_there scene.setup (limit_of x) g bio hand lists master leg key d lt) (all_there scene.setup (limit_of x) lists.list1 d.3),
        sum_by_push (bio_due scene.setup (Lined (limit_of x))) lists.list0 item,
        legs_on (tree_at scene.setup bio.dev) bio.range leg lt,
        p.leg bio hand leg key d.0 lt,
        v.leg bio hand leg key d.0 lt,
        legs_next (λ k. sum_by one_each (leg_fragments (tree_at scene.setup bio.dev) bio k)) legs leg lt,
      )
  -- drops that leave a node open
  takes_one (moves.Told place disk carried writer key status part node) c h =
      let m : Move = moves.Told place disk carried writer key status part node in
      omega (
        arith,
        delta scene w s m c,
        delta scene in_hand s m c,
        on_tasks task_duties scene s place (Completer disk carried) (Completer disk Empty) c.0 c.1,
        tells_due scene.setup place carried writer key status part c.2,
        carried_hand place carried,
      )
  -- drops that close a node
  takes_one (moves.Closes place disk carried writer key status part node) c h =
      let m : Move = moves.Closes place disk carried writer key status part node in
      let odd_none : odd_holding node.role node.held.bio node.held.slip ≡ 0 = omega (arith, held, node_part scene s i odd writer key node c.4) in
      omega (
        arith,
        delta scene w s m c,
        delta scene in_hand s m c,
        on_tasks task_duties scene s place (Completer disk carried) (Completer disk (Carries writer (closed_of (told node status part)))) c.0 c.1,
        tells_due scene.setup place carried writer key status part c.2,
        carried_hand place carried,
        closes_one carried writer key status part node c.2 (is_away scene s place disk carried writer key status part node i c.0 c.1 c.2 c.4)
            (closing_own scene s f i place disk carried writer key status part node c) odd_none,
      )
  -- gives
  takes_one (moves.Gives place disk writer number closed held) c h =
      let m : Move = moves.Gives place disk writer number closed held in
      omega (
        arith,
        delta scene w s m c,
        delta scene in_hand s m c,
        on_tasks task_duties scene s place (Completer disk (Carries writer closed)) (Completer disk (Carries writer (record closed { held = held }))) c.0 c.1,
        released_charge number closed.held held c.2,
      )
  -- ends of writes
  takes_one (moves.Ends place disk writer closed) c h =
      let m : Move = moves.Ends place disk writer closed in
      let none : one_if_some closed.held.bio + one_if_some closed.held.vector + one_if_some closed.held.slip ≡ 0 = rw (c.2) refl in
      omega (arith, delta scene w s m c, delta scene in_hand s m c, none, on_tasks task_duties scene s place (Completer disk (Carries writer closed)) (Completer disk Empty) c.0 c.1)
  -- resizes and rounds
  takes_one (moves.Resized place pool min later duties) c h =
      let m : Move = moves.Resized place pool min later duties in
      omega (arith, delta scene w s m c, delta scene in_hand s m c, on_tasks task_duties scene s place (Keeper (Keeps (Resizes pool min later ∷ duties))) (Keeper (Keeps duties)) c.0 c.1)
  takes_one (moves.Started place round later duties) c h =
      let m : Move = moves.Started place round later duties in
      omega (arith, delta scene w s m c, delta scene in_hand s m c, on_tasks task_duties scene s place (Keeper (Keeps (Starts round later ∷ duties))) (Keeper (Keeps duties)) c.0 c.1)
