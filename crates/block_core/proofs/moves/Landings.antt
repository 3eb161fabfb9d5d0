-- What the steps of a submission do to a weight of bios that stays where they land, as long as their devices can serve them.
use Rattle.std.proofs.Common.{◌≡◌, ◌+◌, ◌<◌, ◌==◌, ◌++◌, if◌then◌else◌, ℕ, Bool, true, false, IsTrue, List, [], ◌∷◌, filter, refl, sym, ◌∙◌, subst, arith}
use Rattle.std.specs.Prelude.{sum_by}
use Rattle.std.proofs.lemmas.List.Sums.{sum_by-cons}
use Rattle.stack_base.specs.declared.ids.DevId.{DevId}
use Rattle.stack_base.specs.declared.stack.Kind.{Kind}
use Rattle.stack_base.specs.Tree.{Tree, Split}
use Rattle.stack_base.proofs.ListLemmas.{Each}
use Rattle.bio_records.specs.declared.bio.Bio.{Bio}
use Rattle.bio_records.specs.declared.bio.Pad.{Pad}
use Rattle.bio_records.specs.declared.tasks.TaskLists.{TaskLists}
use Rattle.bio_records.specs.Items.{Item}
use Rattle.bio_records.specs.Sorting.{is_lower, is_for_device}
use Rattle.bio_lists.specs.Submission.{order, submitted}
use Rattle.bio_split.specs.Split.{split_rest}
use Rattle.run_machine.specs.Scene.{Setup, tree_at}
use Rattle.bioset_pools.specs.Sets.{waits_first}
use Rattle.run_machine.specs.Submissions.{Takes, Links, ToCut, Drives, Copies, settled, goes_on, copies, first_length, landed, legs_of, leg_at, is_cut}
use Rattle.block_core.specs.Weights.{Weight, Lined, submission_weight}
use Rattle.block_core.proofs.moves.Moves.{cut_lists, piece}
use Rattle.block_core.proofs.moves.SubmissionWeights.{asks_weight, order_weight}
use Rattle.block_core.proofs.sound.SumParts.{unless}
use Rattle.block_core.proofs.moves.Geometry.{IsThere}
use Rattle.block_core.proofs.sound.Orders.{IsPlaced, IsOwn, AskFits, DoingPlaced, DeviceGeometry, each_map, each_less, each_append}

abbrev pub AreThere : Setup → List (Item Pad) → Type 0
AreThere setup items = Each (λ (item : Item Pad). IsThere setup item.bio) items

-- the weight of a bio is that of the bio where it lands
abbrev pub IsLanding : Setup → Weight → Type 0
IsLanding setup w = (limit : ℕ) (item : Item Pad) → IsThere setup item.bio
    → w.bio (Lined limit) (record item { bio = landed (tree_at setup item.bio.dev) item.bio }) ≡ w.bio (Lined limit) item

module _ (setup : Setup) (w : Weight) (lands : IsLanding setup w) where
  pub settled_there : (limit : ℕ) (items : List (Item Pad)) → AreThere setup items → submission_weight w limit (settled setup items) ≡ sum_by (w.bio (Lined limit)) items
  settled_there limit [] are = refl
  settled_there limit (item ∷ waiting) are =
      let at : Bio = landed (tree_at setup item.bio.dev) item.bio in
      let lists : TaskLists = record { list0 = []; list1 = waiting } in
      omega (
        arith,
        asks_weight w limit setup lists (record item { bio = at }) (tree_at setup at.dev),
        lands limit item are.0,
        sum_by-cons (w.bio (Lined limit)) item waiting,
      )

  pub goes_there : (limit : ℕ) (dev : DevId) (lists : TaskLists) → AreThere setup lists.list0 → AreThere setup lists.list1
      → submission_weight w limit (goes_on setup dev lists) ≡ sum_by (w.bio (Lined limit)) lists.list0 + sum_by (w.bio (Lined limit)) lists.list1
  goes_there limit dev lists first second =
      let P : Item Pad → Type 0 = λ item. IsThere setup item.bio in
      let low = filter (is_lower dev) lists.list0 in
      let same = filter (is_for_device dev) lists.list0 in
      settled_there limit (order dev lists)
      (each_append P low (same ++ lists.list1) (each_less P (is_lower dev) lists.list0 first) (each_append P same lists.list1 (each_less P (is_for_device dev) lists.list0 first) second))
      ∙ order_weight (w.bio (Lined limit)) dev lists

  pub copies_there : (limit : ℕ) (lists : TaskLists) (bio : Bio) (master leg : ℕ) → AreThere setup lists.list0 → AreThere setup lists.list1
      → submission_weight w limit (copies setup lists bio master leg)
      ≡ unless (leg == legs_of (tree_at setup bio.dev)) (w.copy bio master leg) + sum_by (w.bio (Lined limit)) lists.list0 + sum_by (w.bio (Lined limit)) lists.list1
  copies_there limit lists bio master leg first second = by_test (leg == legs_of (tree_at setup bio.dev))
    where
      by_test : (b : Bool)
          → submission_weight w limit (if b then goes_on setup bio.dev lists else record { doing = Copies bio master leg (Takes (waits_first (setup.rescuer bio.dev.0) lists)); lists = lists })
          ≡ unless b (w.copy bio master leg) + sum_by (w.bio (Lined limit)) lists.list0 + sum_by (w.bio (Lined limit)) lists.list1
      by_test true = omega (arith, goes_there limit bio.dev lists first second)
      by_test false = omega arith

-- the bios of a task's lists are such
module _ (setup : Setup) (limit : ℕ) where
  pub all_there : (items : List (Item Pad)) → Each (IsPlaced setup limit) items → AreThere setup items
  all_there items placed = each_map (IsPlaced setup limit) (λ (item : Item Pad). IsThere setup item.bio) (λ item h. h.0) items placed

  own_there : (dev : ℕ) (items : List (Item Pad)) → Each (IsOwn setup dev limit) items → AreThere setup items
  own_there dev items own = each_map (IsOwn setup dev limit) (λ (item : Item Pad). IsThere setup item.bio) (λ item h. h.0.0) items own

  -- list 0 of one that drives a bio
  pub none_there : (lists : TaskLists) → lists.list0 ≡ [] → AreThere setup lists.list0
  none_there lists none = subst (AreThere setup) (sym none) tt

  module _ (g : DeviceGeometry setup) where
    -- with the parts of a bio that is cut
    pub cut_there : (bio hand : Item Pad) (lists : TaskLists) (key number : ℕ) (kind : Kind) (sizes : List ℕ) (members : ℕ → Tree)
        → DoingPlaced setup limit (Drives bio (ToCut (Links hand))) lists → tree_at setup bio.bio.dev ≡ Split number kind sizes members
        → IsTrue (is_cut (Split number kind sizes members) bio.bio.range) × AreThere setup (cut_lists bio lists hand (first_length kind sizes bio.bio.range) key kind sizes members).list0
    cut_there bio hand lists key number kind sizes members d is =
        let n = first_length kind sizes bio.bio.range in
        let child = piece bio hand n key kind sizes members in
        let P : Item Pad → Type 0 = λ item. IsThere setup item.bio in
        let suits : AskFits (Split number kind sizes members) bio.bio.range bio.bio.dev.0 (ToCut (Links hand)) = subst (λ t. AskFits t bio.bio.range bio.bio.dev.0 (ToCut (Links hand))) is d.3 in
        let cuts = g.cut_piece bio hand key number kind sizes members d.1.0.0 is suits.0 in
        (suits.0, each_append P (lists.list0 ++ child ∷ []) (split_rest bio n ∷ []) (each_append P lists.list0 (child ∷ []) (none_there lists d.0) (cuts.0, tt)) (cuts.2, tt))

    -- with one more leg
    pub leg_there : (bio : Bio) (hand : Item Pad) (lists : TaskLists) (master leg key : ℕ) → DoingPlaced setup limit (Copies bio master leg (Links hand)) lists
        → leg < legs_of (tree_at setup bio.dev) → AreThere setup (submitted (leg_at bio hand leg key (tree_at setup bio.dev)) lists).list0
    leg_there bio hand lists master leg key d lt =
        let item = leg_at bio hand leg key (tree_at setup bio.dev) in
        let P : Item Pad → Type 0 = λ item. IsThere setup item.bio in
        each_append P lists.list0 (item ∷ []) (own_there bio.dev.0 lists.list0 d.2) ((g.leg bio hand leg key d.0 lt).0, tt)
