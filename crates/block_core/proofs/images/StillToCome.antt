-- Each event but a completion leaves what is still to come as it is, and a completion takes its fragment away.
use Rattle.std.proofs.Common.{◌≡◌, ◌+◌, ◌-◌, ◌^◌, ◌==◌, ℕ, Bool, true, false, List, [], ◌∷◌, None, Some, refl, ◌∙◌, ap, subst, arith}
use Rattle.std.specs.Prelude.{sum_by}
use Rattle.std.proofs.lemmas.List.Sums.{sum_by-cons, sum_by_push}
use Rattle.stack_base.specs.declared.ids.SetId.TheVariants.{Of}
use Rattle.stack_base.proofs.ListLemmas.{Each}
use Rattle.layout_model.specs.declared.fragment.Fragment.{Fragment}
use Rattle.layout_model.proofs.RangeSums.{sum_same}
use Rattle.bio_records.specs.declared.bio.Bio.{Bio}
use Rattle.bio_records.specs.declared.bio.Pad.{Pad}
use Rattle.bio_records.specs.declared.tasks.TaskLists.{TaskLists}
use Rattle.bio_records.specs.Items.{Item}
use Rattle.bio_lists.specs.Submission.{submitted}
use Rattle.bio_lists.specs.Punt.{punted}
use Rattle.run_machine.specs.Scene.{Setup, Scene, tree_at}
use Rattle.run_machine.specs.Submissions.{Links, ToPush, ToCut, ToMaster, Drives, Copies, rests, copies, first_length, legs_of, leg_at}
use Rattle.run_machine.specs.Tasks.{Writer, HasBio, HasBoth, Carried, Empty, Brings, Carries, Fails}
use Rattle.run_machine.specs.Runs.{State}
use Rattle.block_core.specs.Weights.{Weight, Rescued, Lined, total_weight, submission_weight, carried_weight}
use Rattle.block_core.specs.Fragments.{offset_of, fragment_of, leg_fragments, todo_fragments, bio_comes, legs_come, to_come}
use Rattle.block_core.proofs.moves.Moves.{Move, Can, after, limit_of, filled_of, cut_lists}
use Rattle.block_core.proofs.moves.Moves as moves
use Rattle.block_core.proofs.moves.Landings.{AreThere, IsLanding, settled_there, goes_there, copies_there, all_there, none_there, cut_there, leg_there}
use Rattle.block_core.proofs.sound.SumParts.{cut_weight, unless}
use Rattle.block_core.proofs.moves.Deltas.{delta}
use Rattle.block_core.proofs.sound.Invariant.{TaskIsSound, Invariant}
use Rattle.block_core.proofs.sound.TaskSubmissions.{submission_fits}
use Rattle.block_core.proofs.sound.Orders.{IsOwn, TaskPlaced, Placed, DeviceGeometry}
use Rattle.block_core.proofs.sound.OrdersKept.{placed_at}
use Rattle.block_core.proofs.images.FragmentCounts.{IsCounted, Divided, mirror_worth, legs_next, legs_none}
use Rattle.block_core.proofs.moves.Misfits.{misfits, cut_fits}

-- how far the place of a bio's end would be behind the last that there is
abbrev pub over : Bio → ℕ
over bio = offset_of bio + bio.range.len + 1 - 2 ^ 35

-- what a completion takes away
abbrev pub ended : Move → List Fragment
ended (moves.Completed place disk index bio status new) = fragment_of bio.bio ∷ []
ended m = []

abbrev pub done : (Fragment → ℕ) → Move → ℕ
done value m = sum_by value (ended m)

module _ (setup : Setup) (value : Fragment → ℕ) (v : Divided setup value) where
  abbrev lined : ℕ → Item Pad → ℕ
  lined limit = bio_comes setup value (Lined limit)

  pub lands : IsLanding setup (to_come setup value)
  lands limit item is = v.lands item.bio is

  legs_end : (bio : Bio) (leg : ℕ) → leg ≡ legs_of (tree_at setup bio.dev) → legs_come setup value bio leg ≡ 0
  legs_end bio leg is =
      ap (legs_come setup value bio) is ∙ legs_none (λ k. sum_by value (leg_fragments (tree_at setup bio.dev) bio k)) (legs_of (tree_at setup bio.dev))

  copies_come : (limit : ℕ) (lists : TaskLists) (bio : Bio) (master leg : ℕ) → AreThere setup lists.list0 → AreThere setup lists.list1
      → submission_weight (to_come setup value) limit (copies setup lists bio master leg)
      ≡ legs_come setup value bio leg + sum_by (lined limit) lists.list0 + sum_by (lined limit) lists.list1
  copies_come limit lists bio master leg first second = by_test (leg == legs_of (tree_at setup bio.dev)) refl (copies_there setup (to_come setup value) lands limit lists bio master leg first second)
    where
      by_test : {n : ℕ} (b : Bool) → (leg == legs_of (tree_at setup bio.dev)) ≡ b
          → n ≡ unless b (legs_come setup value bio leg) + sum_by (lined limit) lists.list0 + sum_by (lined limit) lists.list1
          → n ≡ legs_come setup value bio leg + sum_by (lined limit) lists.list0 + sum_by (lined limit) lists.list1
      by_test true is are =
          let same : leg ≡ legs_of (tree_at setup bio.dev) = search (is, arith) in
          omega (arith, are, legs_end bio leg same)
      by_test false is are = are

-- what a completer carries has none
pub carried_none : (setup : Setup) (value : Fragment → ℕ) (task : ℕ) (carried : Carried) → carried_weight (to_come setup value) task carried ≡ 0
carried_none setup value task Empty = refl
carried_none setup value task (Brings bio status) = refl
carried_none setup value task (Carries writer closed) = refl
carried_none setup value task (Fails breach kept) = refl

module _ (scene : Scene) (s : State) (value : Fragment → ℕ) (g : DeviceGeometry scene.setup) (v : Divided scene.setup value) (i : Invariant scene s) (a : Placed scene.setup s)
    (counted : total_weight scene (misfits over) s ≡ 0) where
  abbrev w : Weight
  w = to_come scene.setup value

  pub comes : (m : Move) → Can scene s m → total_weight scene w (after scene s m) + done value m ≡ total_weight scene w s
  -- takes and misses
  comes (moves.TakesFirst place writer todo later move) c = omega (arith, delta scene w s (moves.TakesFirst place writer todo later move) c)
  comes (moves.TakesVector place writer todo later item move) c = omega (arith, delta scene w s (moves.TakesVector place writer todo later item move) c)
  comes (moves.TakesSub place x doing lists dev waits move) c = omega (arith, delta scene w s (moves.TakesSub place x doing lists dev waits move) c)
  comes (moves.TakesSlip place x bio lists move) c = omega (arith, delta scene w s (moves.TakesSlip place x bio lists move) c)
  comes (moves.MissesOne place x number used) c = omega (arith, delta scene w s (moves.MissesOne place x number used) c)
  comes (moves.MissesTry place x doing lists dev used) c = omega (arith, delta scene w s (moves.MissesTry place x doing lists dev used) c)
  -- punts
  comes (moves.Punts place x doing lists dev) c =
      omega (
        arith,
        delta scene w s (moves.Punts place x doing lists dev) c,
        sum_same (bio_comes scene.setup value Rescued) (bio_comes scene.setup value (Lined (limit_of x))) (punted (Of dev) lists) (λ item. refl),
      )
  -- pops
  comes (moves.Pops place dev bio bios) c =
      let r : Each (IsOwn scene.setup dev.0 dev.0) (bio ∷ bios) = subst (Each (IsOwn scene.setup dev.0 dev.0)) c.3 (a.rescued dev.0) in
      omega (
        arith,
        delta scene w s (moves.Pops place dev bio bios) c,
        settled_there scene.setup w (lands scene.setup value v) dev.0 (bio ∷ []) (r.0.0.0, tt),
        sum_by-cons (bio_comes scene.setup value (Lined dev.0)) bio [],
      )
  -- pushes
  comes (moves.Pushes place x bio lists) c =
      let d = placed_at scene.setup s a place x (Drives bio ToPush) lists c.1 c.2 in
      omega (
        arith,
        delta scene w s (moves.Pushes place x bio lists) c,
        goes_there scene.setup w (lands scene.setup value v) (limit_of x) bio.bio.dev lists (none_there scene.setup (limit_of x) lists d.0) (all_there scene.setup (limit_of x) lists.list1 d.1.1),
        v.disk bio.bio d.1.0.0 d.3,
      )
  -- completions
  comes (moves.Completed place disk index bio status new) c =
      omega (arith, delta scene w s (moves.Completed place disk index bio status new) c, sum_by-cons value (fragment_of bio.bio) [])
  -- links of writes
  comes (moves.Begins place writer todo later item None key) c =
      let t : TaskPlaced scene.setup (Writer writer (todo ∷ later) (HasBio item) rests) = subst (TaskPlaced scene.setup) c.1 (a.tasks place) in
      let filled_item : Item Pad = filled_of writer todo item None key in
      omega (
        arith,
        delta scene w s (moves.Begins place writer todo later item None key) c,
        settled_there scene.setup w (lands scene.setup value v) 32 (filled_item ∷ []) (t.0.0 key, tt),
        sum_by-cons (bio_comes scene.setup value (Lined 32)) filled_item [],
        sum_by-cons (λ todo. sum_by value (todo_fragments scene.setup todo)) todo later,
      )
  comes (moves.Begins place writer todo later item (Some vector) key) c =
      let t : TaskPlaced scene.setup (Writer writer (todo ∷ later) (HasBoth item vector) rests) = subst (TaskPlaced scene.setup) c.1 (a.tasks place) in
      let filled_item : Item Pad = filled_of writer todo item (Some vector) key in
      omega (
        arith,
        delta scene w s (moves.Begins place writer todo later item (Some vector) key) c,
        settled_there scene.setup w (lands scene.setup value v) 32 (filled_item ∷ []) (t.0.0 key, tt),
        sum_by-cons (bio_comes scene.setup value (Lined 32)) filled_item [],
        sum_by-cons (λ todo. sum_by value (todo_fragments scene.setup todo)) todo later,
      )
  -- links of pieces
  comes (moves.Chained place x bio lists hand number kind sizes members key node) c =
      let n = first_length kind sizes bio.bio.range in
      let d = placed_at scene.setup s a place x (Drives bio (ToCut (Links hand))) lists c.1 c.2 in
      let cuts = cut_there scene.setup (limit_of x) g bio hand lists key number kind sizes members d c.3 in
      let fits : over bio.bio ≡ 0 = cut_fits over scene s counted place x bio hand lists c.0 c.1 c.2 in
      let small : IsCounted bio.bio = omega (arith, fits) in
      omega (
        arith,
        delta scene w s (moves.Chained place x bio lists hand number kind sizes members key node) c,
        goes_there scene.setup w (lands scene.setup value v) (limit_of x) bio.bio.dev (cut_lists bio lists hand n key kind sizes members) cuts.1 (all_there scene.setup (limit_of x) lists.list1 d.1.1),
        cut_weight (bio_comes scene.setup value (Lined (limit_of x))) bio lists hand n key kind sizes members,
        v.cut bio hand key number kind sizes members d.1.0.0 small c.3 cuts.0,
      )
  -- links of masters
  comes (moves.Mastered place x bio lists slip key node) c =
      let d = placed_at scene.setup s a place x (Drives bio (ToMaster slip)) lists c.1 c.2 in
      omega (
        arith,
        delta scene w s (moves.Mastered place x bio lists slip key node) c,
        copies_come scene.setup value v (limit_of x) lists bio.bio key 0 (none_there scene.setup (limit_of x) lists d.0) (all_there scene.setup (limit_of x) lists.list1 d.1.1),
        mirror_worth (tree_at scene.setup bio.bio.dev) value bio.bio bio.bio.range bio.bio.dev.0 slip d.3,
      )
  -- links of legs
  comes (moves.Legged place x bio lists master leg hand key node) c =
      let d = placed_at scene.setup s a place x (Copies bio master leg (Links hand)) lists c.1 c.2 in
      let lt = submission_fits scene x (Copies bio master leg (Links hand)) lists (subst (TaskIsSound scene) c.1 (i.tasks place)) c.2 in
      let item = leg_at bio hand leg key (tree_at scene.setup bio.dev) in
      let more = submitted item lists in
      let first = leg_there scene.setup (limit_of x) g bio hand lists master leg key d lt in
      omega (
        arith,
        delta scene w s (moves.Legged place x bio lists master leg hand key node) c,
        copies_come scene.setup value v (limit_of x) more bio master (leg + 1) first (all_there scene.setup (limit_of x) lists.list1 d.3),
        sum_by_push (bio_comes scene.setup value (Lined (limit_of x))) lists.list0 item,
        v.leg bio hand leg key d.0 lt,
        legs_next (λ k. sum_by value (leg_fragments (tree_at scene.setup bio.dev) bio k)) (legs_of (tree_at scene.setup bio.dev)) leg lt,
      )
  -- drops that leave a node open, drops that close a node, gives, ends of writes, resizes and rounds
  comes (moves.Told place disk carried writer key status part node) c = omega (arith, carried_none scene.setup value place carried, delta scene w s (moves.Told place disk carried writer key status part node) c)
  comes (moves.Closes place disk carried writer key status part node) c = omega (arith, carried_none scene.setup value place carried, delta scene w s (moves.Closes place disk carried writer key status part node) c)
  comes (moves.Gives place disk writer number closed held) c = omega (arith, delta scene w s (moves.Gives place disk writer number closed held) c)
  comes (moves.Ends place disk writer closed) c = omega (arith, delta scene w s (moves.Ends place disk writer closed) c)
  comes (moves.Resized place pool min later duties) c = omega (arith, delta scene w s (moves.Resized place pool min later duties) c)
  comes (moves.Started place round later duties) c = omega (arith, delta scene w s (moves.Started place round later duties) c)
