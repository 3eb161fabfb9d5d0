-- Each node that an event opens was still to be opened.
use Rattle.std.proofs.Common.{◌≡◌, ◌+◌, ◌*◌, ◌<◌, ◌≤◌, ◌==◌, ℕ, List, [], ◌∷◌, length, Option, None, Some, inl, inr, refl, sym, ◌∙◌, ap, subst, arith}
use Rattle.std.specs.Prelude.{sum_by}
use Rattle.std.proofs.lemmas.List.{length-set}
use Rattle.std.proofs.lemmas.List.Sums.{sum_by-cons, sum_by_push}
use Rattle.stack_base.specs.Tree.{Tree, Leaf, Split, Mirrored}
use Rattle.stack_base.proofs.ListLemmas.{Each}
use Rattle.bio_records.specs.declared.bio.Bio.{Bio}
use Rattle.bio_records.specs.declared.bio.Pad.{Pad}
use Rattle.bio_records.specs.declared.tasks.TaskLists.{TaskLists}
use Rattle.bio_records.specs.Items.{Item}
use Rattle.bio_lists.specs.Submission.{submitted}
use Rattle.bio_books.specs.Books.{Node, BookState, VectorItem, with_node}
use Rattle.run_machine.specs.Maps.{upd}
use Rattle.run_machine.specs.Scene.{Setup, Scene, tree_at}
use Rattle.run_machine.specs.Submissions.{Links, ToPush, ToCut, ToMaster, Drives, Copies, rests, copies, first_length, landed, legs_of, leg_at}
use Rattle.run_machine.specs.Tasks.{Writer, Todo}
use Rattle.run_machine.specs.Runs.{State}
use Rattle.block_core.specs.Touches.{Touch, Opens, Shuts, Passes}
use Rattle.block_core.specs.Weights.{Weight, Lined, submission_weight, one_if_same}
use Rattle.block_core.specs.Rooms.{need_at, todo_need, legs_need, room, HasRoomInBooks}
use Rattle.block_core.proofs.moves.Moves.{Move, Can, after, lost, gained, limit_of, touch_by, gathered_of, filled_of, cut_lists}
use Rattle.block_core.proofs.moves.Moves as moves
use Rattle.block_core.proofs.moves.Sums.{upd-same, upd-other, same_or_not}
use Rattle.block_core.proofs.moves.SubmissionWeights.{landed_same}
use Rattle.block_core.proofs.sound.Invariant.{TaskIsSound, Invariant}
use Rattle.block_core.proofs.moves.Geometry.{IsThere}
use Rattle.block_core.proofs.sound.Orders.{IsOwn, TodoThere, TaskPlaced, Placed, DeviceGeometry}
use Rattle.block_core.proofs.moves.Deltas.{delta}
use Rattle.block_core.proofs.moves.Landings.{AreThere, IsLanding, settled_there, goes_there, copies_there, all_there, none_there, cut_there, leg_there}
use Rattle.block_core.proofs.sound.TaskSubmissions.{submission_fits}
use Rattle.block_core.proofs.sound.OrdersKept.{placed_at}
use Rattle.block_core.proofs.sound.SumParts.{cut_weight, unless_less}
use Rattle.block_core.proofs.unrefused.NodeNeeds.{Needs, mirror_need, legs_on}

-- the nodes that writer w's writes have still to open, and those that are open, where each in a writer's book is worth this
abbrev pub room_worth : Setup → ℕ → (ℕ → ℕ) → Weight
room_worth setup w worth = record (room setup w) { node = λ writer place node. worth writer }

-- what the node is worth that is opened
abbrev pub opened_worth : (ℕ → ℕ) → Touch → ℕ
opened_worth worth (Opens writer node) = worth writer
opened_worth worth (Shuts writer node) = 0
opened_worth worth Passes = 0

-- bios of a submission need what they needed, the first of them where it lands
landed_room : (setup : Setup) → Needs setup → (w limit : ℕ) (item : Item Pad) → IsThere setup item.bio
    → (room setup w).bio (Lined limit) (record item { bio = landed (tree_at setup item.bio.dev) item.bio }) ≡ (room setup w).bio (Lined limit) item
landed_room setup n w limit item is =
    let at : Bio = landed (tree_at setup item.bio.dev) item.bio in
    ap (λ v. one_if_same v w * need_at setup at) (landed_same (λ (bio : Bio). bio.writer) (λ to members bio. refl) (tree_at setup item.bio.dev) item.bio)
    ∙ ap (λ v. one_if_same item.bio.writer w * v) (n.lands item.bio is)

copies_room : (setup : Setup) (n : Needs setup) (w : ℕ) (worth : ℕ → ℕ) (limit : ℕ) (lists : TaskLists) (bio : Bio) (master leg : ℕ) → AreThere setup lists.list0 → AreThere setup lists.list1
    → submission_weight (room_worth setup w worth) limit (copies setup lists bio master leg)
    ≤ one_if_same bio.writer w * legs_need setup bio leg + sum_by ((room_worth setup w worth).bio (Lined limit)) lists.list0 + sum_by ((room_worth setup w worth).bio (Lined limit)) lists.list1
copies_room setup n w worth limit lists bio master leg first second = omega (
  arith,
  copies_there setup (room_worth setup w worth) (landed_room setup n w) limit lists bio master leg first second,
  unless_less (leg == legs_of (tree_at setup bio.dev)) (one_if_same bio.writer w * legs_need setup bio leg),
)

-- places of books that change none of their number
kept_places : (f : ℕ → BookState) (places : ℕ → ℕ) (writer : ℕ) (book : BookState) → ((w : ℕ) → length (f w).nodes ≡ places w) → length book.nodes ≡ length (f writer).nodes
    → (w : ℕ) → length (upd f writer book w).nodes ≡ places w
kept_places f places writer book all same w = elim (same_or_not w writer) [
  | inl e ↦ ap (λ k. length (upd f writer book k).nodes) e ∙ ap (λ (b : BookState). length b.nodes) (upd-same f writer book) ∙ same ∙ all writer ∙ ap places (sym e)
  | inr ne ↦ ap (λ (b : BookState). length b.nodes) (upd-other f writer book w ne) ∙ all w
]

two_places : (book : BookState) (key place : ℕ) (new other : Option Node) → length (with_node (with_node book key new) place other).nodes ≡ length book.nodes
two_places book key place new other = length-set (with_node book key new).nodes place other ∙ length-set book.nodes key new

module _ (scene : Scene) (s : State) (g : DeviceGeometry scene.setup) (n : Needs scene.setup) (i : Invariant scene s) (a : Placed scene.setup s) where
  -- an event that opens a node has one less to open
  abbrev Spends : ℕ → (ℕ → ℕ) → Move → Type 0
  Spends w worth m =
      gained scene (room_worth scene.setup w worth) s m + opened_worth (λ writer. one_if_same writer w) (touch_by m) ≤ lost scene (room_worth scene.setup w worth) s m + opened_worth worth (touch_by m)

  lands : (w : ℕ) (worth : ℕ → ℕ) → IsLanding scene.setup (room_worth scene.setup w worth)
  lands w worth = landed_room scene.setup n w

  begins : (w : ℕ) (worth : ℕ → ℕ) (place writer : ℕ) (todo : Todo) (later : List Todo) (item : Item Pad) (vector : Option VectorItem) (key : ℕ) → TodoThere scene.setup writer todo
      → Spends w worth (moves.Begins place writer todo later item vector key)
  begins w worth place writer todo later item None key there =
      let filled_item : Item Pad = filled_of writer todo item None key in
      let b = settled_there scene.setup (room_worth scene.setup w worth) (lands w worth) 32 (filled_item ∷ []) (there key, tt) in
      let all = ap (λ k. one_if_same writer w * k) (sum_by-cons (todo_need scene.setup) todo later) in
      omega (arith, b, sum_by-cons ((room_worth scene.setup w worth).bio (Lined 32)) filled_item [], all)
  begins w worth place writer todo later item (Some vector) key there =
      let filled_item : Item Pad = filled_of writer todo item (Some vector) key in
      let b = settled_there scene.setup (room_worth scene.setup w worth) (lands w worth) 32 (filled_item ∷ []) (there key, tt) in
      let all = ap (λ k. one_if_same writer w * k) (sum_by-cons (todo_need scene.setup) todo later) in
      omega (arith, b, sum_by-cons ((room_worth scene.setup w worth).bio (Lined 32)) filled_item [], all)

  pub spends : (w : ℕ) (worth : ℕ → ℕ) (m : Move) → Can scene s m → Spends w worth m
  -- pops, pushes and links of writes
  spends w worth (moves.Pops place dev bio bios) c =
      let r : Each (IsOwn scene.setup dev.0 dev.0) (bio ∷ bios) = subst (Each (IsOwn scene.setup dev.0 dev.0)) c.3 (a.rescued dev.0) in
      omega (arith, settled_there scene.setup (room_worth scene.setup w worth) (lands w worth) dev.0 (bio ∷ []) (r.0.0.0, tt), sum_by-cons ((room_worth scene.setup w worth).bio (Lined dev.0)) bio [])
  spends w worth (moves.Pushes place x bio lists) c =
      let d = placed_at scene.setup s a place x (Drives bio ToPush) lists c.1 c.2 in
      omega (arith, goes_there scene.setup (room_worth scene.setup w worth) (lands w worth) (limit_of x) bio.bio.dev lists (none_there scene.setup (limit_of x) lists d.0) (all_there scene.setup (limit_of x) lists.list1 d.1.1))
  spends w worth (moves.Begins place writer todo later item vector key) c =
      let t : TaskPlaced scene.setup (Writer writer (todo ∷ later) (gathered_of item vector) rests) = subst (TaskPlaced scene.setup) c.1 (a.tasks place) in
      begins w worth place writer todo later item vector key t.0.0
  -- links of pieces
  spends w worth (moves.Chained place x bio lists hand number kind sizes members key node) c =
      let k = first_length kind sizes bio.bio.range in
      let d = placed_at scene.setup s a place x (Drives bio (ToCut (Links hand))) lists c.1 c.2 in
      let cuts = cut_there scene.setup (limit_of x) g bio hand lists key number kind sizes members d c.3 in
      let part = ap (λ v. one_if_same bio.bio.writer w * v) (n.cut bio hand key number kind sizes members d.1.0.0 c.3 cuts.0) in
      omega (
        arith,
        goes_there scene.setup (room_worth scene.setup w worth) (lands w worth) (limit_of x) bio.bio.dev (cut_lists bio lists hand k key kind sizes members) cuts.1 (all_there scene.setup (limit_of x) lists.list1 d.1.1),
        cut_weight ((room_worth scene.setup w worth).bio (Lined (limit_of x))) bio lists hand k key kind sizes members,
        part,
      )
  -- links of masters
  spends w worth (moves.Mastered place x bio lists slip key node) c =
      let d = placed_at scene.setup s a place x (Drives bio (ToMaster slip)) lists c.1 c.2 in
      let is = d.1.0.0 in
      let part = ap (λ v. one_if_same bio.bio.writer w * v) (mirror_need (tree_at scene.setup bio.bio.dev) bio.bio.range bio.bio.dev.0 slip d.3 is.some) in
      omega (arith, copies_room scene.setup n w worth (limit_of x) lists bio.bio key 0 (none_there scene.setup (limit_of x) lists d.0) (all_there scene.setup (limit_of x) lists.list1 d.1.1), part)
  -- links of legs
  spends w worth (moves.Legged place x bio lists master leg hand key node) c =
      let d = placed_at scene.setup s a place x (Copies bio master leg (Links hand)) lists c.1 c.2 in
      let lt = submission_fits scene x (Copies bio master leg (Links hand)) lists (subst (TaskIsSound scene) c.1 (i.tasks place)) c.2 in
      let item = leg_at bio hand leg key (tree_at scene.setup bio.dev) in
      let more = submitted item lists in
      let first = leg_there scene.setup (limit_of x) g bio hand lists master leg key d lt in
      let next = ap (λ v. one_if_same bio.writer w * v) (legs_on (tree_at scene.setup bio.dev) bio.range leg lt) in
      let part = ap (λ v. one_if_same bio.writer w * v) (n.leg bio hand leg key d.0 lt) in
      let own = ap (λ v. one_if_same v w * need_at scene.setup item.bio) (leg_writer bio hand leg key (tree_at scene.setup bio.dev) lt) in
      omega (
        arith,
        copies_room scene.setup n w worth (limit_of x) more bio master (leg + 1) first (all_there scene.setup (limit_of x) lists.list1 d.3),
        sum_by_push ((room_worth scene.setup w worth).bio (Lined (limit_of x))) lists.list0 item,
        next,
        part,
        own,
      )
    where
      leg_writer : (bio : Bio) (hand : Item Pad) (leg key : ℕ) (t : Tree) → leg < legs_of t → (leg_at bio hand leg key t).bio.writer ≡ bio.writer
      leg_writer bio hand leg key (Leaf number sectors) lt = absurd (omega (arith, lt))
      leg_writer bio hand leg key (Split number kind sizes members) lt = absurd (omega (arith, lt))
      leg_writer bio hand leg key (Mirrored number sizes members) lt = refl
  -- all others: no node is opened, and none more is to be
  spends w worth _ c = omega arith

  places : (m : Move) → Can scene s m → ((w : ℕ) → length (s.objects.book w).nodes ≡ scene.setup.places w) → (w : ℕ) → length ((after scene s m).objects.book w).nodes ≡ scene.setup.places w
  -- links of writes: one place of the book changes
  places (moves.Begins place writer todo later item vector key) c all = kept_places s.objects.book scene.setup.places writer _ all (length-set (s.objects.book writer).nodes key _)
  -- links of pieces and of masters: two places of the book change
  places (moves.Chained place x bio lists hand number kind sizes members key node) c all =
      kept_places s.objects.book scene.setup.places bio.bio.writer _ all (two_places (s.objects.book bio.bio.writer) key bio.bio.node _ _)
  places (moves.Mastered place x bio lists slip key node) c all =
      kept_places s.objects.book scene.setup.places bio.bio.writer _ all (two_places (s.objects.book bio.bio.writer) key bio.bio.node _ _)
  -- links of legs, and drops: one place of the book changes
  places (moves.Legged place x bio lists master leg hand key node) c all =
      kept_places s.objects.book scene.setup.places bio.writer _ all (length-set (s.objects.book bio.writer).nodes key _)
  places (moves.Told place disk carried writer key status part node) c all = kept_places s.objects.book scene.setup.places writer _ all (length-set (s.objects.book writer).nodes key _)
  places (moves.Closes place disk carried writer key status part node) c all = kept_places s.objects.book scene.setup.places writer _ all (length-set (s.objects.book writer).nodes key _)
  -- all others: no book changes
  places _ c all = all

  pub stays_roomy : (m : Move) → Can scene s m → HasRoomInBooks scene s → HasRoomInBooks scene (after scene s m)
  stays_roomy m c r = record {
    places = places m c r.places;
    room = λ w. omega (arith, delta scene (room scene.setup w) s m c, spends w (λ writer. one_if_same writer w) m c, r.room w);
  }
