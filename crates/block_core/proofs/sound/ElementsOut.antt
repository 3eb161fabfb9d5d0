-- Each pool has as many elements out as there are in all places.
use Rattle.std.proofs.Common.{◌≡◌, ◌+◌, ◌*◌, ◌==◌, ℕ, [], ◌∷◌, None, refl, ap, arith}
use Rattle.std.proofs.lemmas.List.Sums.{sum_by-cons, sum_by_push}
use Rattle.stack_base.specs.PoolId.{pool_number}
use Rattle.stack_base.specs.Tree.{Tree, Leaf, Split, Mirrored}
use Rattle.mempool_core.specs.Move.{PoolState, after_move, resizes}
use Rattle.bio_records.specs.declared.bio.Pad.{Pad}
use Rattle.bio_records.specs.Items.{Item}
use Rattle.bio_lists.specs.Submission.{submitted}
use Rattle.run_machine.specs.Scene.{Scene, tree_at}
use Rattle.run_machine.specs.Submissions.{ToMaster, Drives, first_length, legs_of, leg_at}
use Rattle.run_machine.specs.Runs.{State}
use Rattle.block_core.specs.Weights.{total_weight, one_if_same, weigh_option, elements_of_pool, holding_elements}
use Rattle.block_core.proofs.moves.Moves.{Move, Can, after, limit_of, cut_lists}
use Rattle.block_core.proofs.moves.Moves as moves
use Rattle.block_core.proofs.moves.Sums.{weight-upd}
use Rattle.block_core.proofs.moves.SubmissionWeights.{goes_weight, first_weight}
use Rattle.block_core.proofs.moves.Deltas.{delta}
use Rattle.block_core.specs.Roles.{named}
use Rattle.block_core.proofs.sound.Invariant.{LedgersAreNumbered, Invariant}
use Rattle.block_core.proofs.sound.SumParts.{out_more, out_same, out_less, cut_weight, blind_elements, begun_elements, released_elements, copies_weight, unless_none, submission_part, named_away, told_elements, is_away}

module _ (scene : Scene) (s : State) (f : LedgersAreNumbered scene) (i : Invariant scene s) where
  pub outs : (m : Move) → Can scene s m → (q : ℕ) → ((after scene s m).objects.pool q).facts.out ≡ total_weight scene (elements_of_pool q) (after scene s m)
  -- takes
  outs (moves.TakesFirst place writer todo later move) c q =
      omega (arith, i.outs q, delta scene (elements_of_pool q) s (moves.TakesFirst place writer todo later move) c, out_more s.objects.pool 65 move q c.2, ap (λ n. one_if_same n q) (f.named 65))
  outs (moves.TakesVector place writer todo later item move) c q =
      omega (arith, i.outs q, delta scene (elements_of_pool q) s (moves.TakesVector place writer todo later item move) c, out_more s.objects.pool 64 move q c.2, ap (λ n. one_if_same n q) (f.named 64))
  outs (moves.TakesSub place x doing lists dev waits move) c q =
      omega (arith, i.outs q, delta scene (elements_of_pool q) s (moves.TakesSub place x doing lists dev waits move) c, out_more s.objects.pool (2 * dev.0) move q c.4, ap (λ n. one_if_same n q) (f.named (2 * dev.0)))
  outs (moves.TakesSlip place x bio lists move) c q =
      omega (
        arith,
        i.outs q,
        delta scene (elements_of_pool q) s (moves.TakesSlip place x bio lists move) c,
        out_more s.objects.pool (2 * bio.bio.dev.0 + 1) move q c.3,
        ap (λ n. one_if_same n q) (f.named (2 * bio.bio.dev.0 + 1)),
      )
  -- misses and punts
  outs (moves.MissesOne place x number used) c q =
      omega (arith, i.outs q, delta scene (elements_of_pool q) s (moves.MissesOne place x number used) c, out_same s.objects.pool number used q)
  outs (moves.MissesTry place x doing lists dev used) c q =
      omega (arith, i.outs q, delta scene (elements_of_pool q) s (moves.MissesTry place x doing lists dev used) c, out_same s.objects.pool (2 * dev.0) used q)
  outs (moves.Punts place x doing lists dev) c q = omega (arith, i.outs q, delta scene (elements_of_pool q) s (moves.Punts place x doing lists dev) c)
  -- pops
  outs (moves.Pops place dev bio bios) c q =
      omega (
        arith,
        i.outs q,
        delta scene (elements_of_pool q) s (moves.Pops place dev bio bios) c,
        first_weight (elements_of_pool q) (blind_elements q) dev.0 scene.setup (bio ∷ []),
        sum_by-cons (λ (bio : Item Pad). one_if_same bio.share.no q) bio [],
      )
  -- pushes, completions and links of writes
  outs (moves.Pushes place x bio lists) c q =
      omega (arith, i.outs q, delta scene (elements_of_pool q) s (moves.Pushes place x bio lists) c, goes_weight (elements_of_pool q) (blind_elements q) (limit_of x) scene.setup bio.bio.dev lists)
  outs (moves.Completed place disk index bio status new) c q =
      omega (arith, i.outs q, delta scene (elements_of_pool q) s (moves.Completed place disk index bio status new) c)
  outs (moves.Begins place writer todo later item vector key) c q =
      omega (arith, i.outs q, delta scene (elements_of_pool q) s (moves.Begins place writer todo later item vector key) c, begun_elements scene q writer todo later item vector key)
  -- links of pieces
  outs (moves.Chained place x bio lists hand number kind sizes members key node) c q =
      let g : Item Pad → ℕ = λ bio. one_if_same bio.share.no q in
      let n = first_length kind sizes bio.bio.range in
      omega (
        arith,
        i.outs q,
        delta scene (elements_of_pool q) s (moves.Chained place x bio lists hand number kind sizes members key node) c,
        goes_weight (elements_of_pool q) (blind_elements q) (limit_of x) scene.setup bio.bio.dev (cut_lists bio lists hand n key kind sizes members),
        cut_weight g bio lists hand n key kind sizes members,
      )
  -- links of masters
  outs (moves.Mastered place x bio lists slip key node) c q =
      let w = named bio.bio.writer bio.bio.node in
      let part = submission_part scene w s place x (Drives bio (ToMaster slip)) lists c.0 c.1 c.2 in
      let none : node.held.bio ≡ None = (named_away scene s bio node i c.4 (omega (arith, part))).0 in
      let held : weigh_option (λ (other : Item Pad). one_if_same other.share.no q) node.held.bio ≡ 0 = ap (weigh_option (λ (other : Item Pad). one_if_same other.share.no q)) none in
      omega (
        arith,
        i.outs q,
        delta scene (elements_of_pool q) s (moves.Mastered place x bio lists slip key node) c,
        held,
        copies_weight (elements_of_pool q) (blind_elements q) (limit_of x) scene.setup lists bio.bio key 0,
        unless_none (0 == legs_of (tree_at scene.setup bio.bio.dev)),
      )
  -- links of legs
  outs (moves.Legged place x bio lists master leg hand key node) c q =
      let g : Item Pad → ℕ = λ bio. one_if_same bio.share.no q in
      let item = leg_at bio hand leg key (tree_at scene.setup bio.dev) in
      omega (
        arith,
        i.outs q,
        delta scene (elements_of_pool q) s (moves.Legged place x bio lists master leg hand key node) c,
        copies_weight (elements_of_pool q) (blind_elements q) (limit_of x) scene.setup (submitted item lists) bio master (leg + 1),
        unless_none (leg + 1 == legs_of (tree_at scene.setup bio.dev)),
        sum_by_push g lists.list0 item,
        same_share (tree_at scene.setup bio.dev),
      )
    where
      same_share : (t : Tree) → one_if_same (leg_at bio hand leg key t).share.no q ≡ one_if_same hand.share.no q
      same_share (Leaf number sectors) = refl
      same_share (Split number kind sizes members) = refl
      same_share (Mirrored number sizes members) = refl
  -- drops that leave a node open
  outs (moves.Told place disk carried writer key status part node) c q =
      omega (
        arith,
        i.outs q,
        delta scene (elements_of_pool q) s (moves.Told place disk carried writer key status part node) c,
        told_elements q writer key status part carried node c.2 (λ bio ending is. (is_away scene s place disk carried writer key status part node i c.0 c.1 c.2 c.4 bio ending is).0),
      )
  -- drops that close a node
  outs (moves.Closes place disk carried writer key status part node) c q =
      omega (
        arith,
        i.outs q,
        delta scene (elements_of_pool q) s (moves.Closes place disk carried writer key status part node) c,
        told_elements q writer key status part carried node c.2 (λ bio ending is. (is_away scene s place disk carried writer key status part node i c.0 c.1 c.2 c.4 bio ending is).0),
      )
  -- gives and ends of writes
  outs (moves.Gives place disk writer number closed held) c q =
      omega (arith, i.outs q, delta scene (elements_of_pool q) s (moves.Gives place disk writer number closed held) c, released_elements q number closed.held held c.2, out_less s.objects.pool number q c.3)
  outs (moves.Ends place disk writer closed) c q =
      omega (arith, i.outs q, delta scene (elements_of_pool q) s (moves.Ends place disk writer closed) c, ap (holding_elements q) c.2)
  -- resizes
  outs (moves.Resized place pool min later duties) c q =
      omega (
        arith,
        i.outs q,
        delta scene (elements_of_pool q) s (moves.Resized place pool min later duties) c,
        weight-upd (λ (y : PoolState). y.facts.out) s.objects.pool (pool_number pool) (after_move (s.objects.pool (pool_number pool)) (resizes min)) q,
      )
  -- rounds
  outs (moves.Started place round later duties) c q = omega (arith, i.outs q, delta scene (elements_of_pool q) s (moves.Started place round later duties) c)
