-- How the runs of bios may end, as they land, are cut and are copied.
use Rattle.std.proofs.Common.{◌≡◌, ◌≢◌, ◌+◌, ◌-◌, ◌<◌, ◌≤◌, ◌&&◌, ◌||◌, ◌⊎◌, not, ℕ, zero, suc, Bool, true, false, IsTrue, List, [], ◌∷◌, length, Some, inl, inr, refl, sym, ◌∙◌, ap, subst, arith}
use Rattle.std.specs.Prelude.{slice_get, sum_by}
use Rattle.std.specs.List.{range_with_len}
use Rattle.std.proofs.lemmas.List.Sums.{sum_by-cons}
use Rattle.stack_base.specs.declared.ids.Range.{Range}
use Rattle.stack_base.specs.declared.ids.Status.{Status}
use Rattle.stack_base.specs.declared.ids.Status.TheVariants as status
use Rattle.stack_base.specs.declared.stack.Device.{Device}
use Rattle.stack_base.specs.declared.stack.Stack.{Stack}
use Rattle.stack_base.specs.declared.stack.Kind.{Kind}
use Rattle.stack_base.specs.Stack.{IsStack}
use Rattle.stack_base.specs.Fault.{status_eq}
use Rattle.stack_base.specs.Mapping.{slot}
use Rattle.stack_base.specs.Tree.{Tree, Leaf, Split, Mirrored, Cuts, shape_of, tree, sizes_at}
use Rattle.layout_model.specs.declared.fragment.Fragment.{Fragment}
use Rattle.layout_model.specs.May.{may_end, each_may_end, some_may_end}
use Rattle.layout_model.specs.Plan.{Plan, Plans, OneFragment, Pieces, Legs, none, also, plans_of, plan}
use Rattle.layout_model.proofs.ByShape.{cuts_is}
use Rattle.layout_model.proofs.Planned.{piece_plans, pieces_are, piece_plans_first, piece_plans_one, legs_are, whole_is}
use Rattle.layout_model.proofs.MayLemmas.{ok_is_alone}
use Rattle.bio_records.specs.declared.bio.Bio.{Bio}
use Rattle.bio_records.specs.declared.bio.Pad.{Pad}
use Rattle.bio_records.specs.Items.{Item}
use Rattle.bio_split.specs.Split.{split_rest}
use Rattle.bio_books.specs.Books.{SlipItem}
use Rattle.run_machine.specs.Scene.{Setup, tree_at, tree_number, setup_of}
use Rattle.run_machine.specs.Submissions.{ToPush, ToMaster, first_length, landed, legs_of, leg_at, is_cut}
use Rattle.block_core.specs.Fragments.{offset_of, fragment_of}
use Rattle.block_core.proofs.moves.Sums.{same_or_not, yes}
use Rattle.block_core.proofs.status.Marks.{may, bio_may, leg_may}
use Rattle.block_core.proofs.moves.Moves.{piece}
use Rattle.run_machine.proofs.TreeNumbers.{number_of_tree}
use Rattle.block_core.proofs.moves.Geometry.{IsThere, IsWhole, falls, goes, members_at, of_each_shape, heads_cut}
use Rattle.block_core.proofs.moves.LegTrees.{GoesDown, legs_go_down}
use Rattle.block_core.proofs.sound.Orders.{AskFits}
use Rattle.block_core.proofs.images.FragmentCounts.{IsCounted, place_on}

pub few_yes : (a : Bool) → yes a ≤ 1
few_yes true = omega arith
few_yes false = omega arith

and_true : (a : Bool) → yes (a && true) ≡ yes a
and_true true = refl
and_true false = refl

or_false : (a : Bool) → yes (a || false) ≡ yes a
or_false true = refl
or_false false = refl

or_both : (a b : Bool) → (yes a ≤ yes (a || b)) × (yes b ≤ yes (a || b))
or_both true true = (omega arith, omega arith)
or_both true false = (omega arith, omega arith)
or_both false b = (omega arith, omega arith)

or_some : (a b : Bool) → yes (a || b) ≤ yes a + yes b
or_some true b = omega arith
or_some false b = omega arith

and_both : (a b : Bool) → (1 - yes (a && b) ≤ (1 - yes a) + (1 - yes b)) × (yes (a && b) ≤ yes a + yes b)
and_both true true = (omega arith, omega arith)
and_both true false = (omega arith, omega arith)
and_both false b = (omega arith, omega arith)

one_of_two : (a : Bool) → 1 ≤ yes a + yes (not a)
one_of_two true = omega arith
one_of_two false = omega arith

-- of a whole run and of its parts, how each may end
pub record IsOfParts (whole first rest : Status → ℕ) : Type 0 where
  pub other : (end : Status) → (end ≢ status.Ok) → (first end ≤ whole end) × (rest end ≤ whole end)
  pub unwell : 1 - whole status.Ok ≤ (1 - first status.Ok) + (1 - rest status.Ok)
  pub well : whole status.Ok ≤ first status.Ok + rest status.Ok

-- of a run that is copied, and of its legs
pub record IsOfLegs (whole : Status → ℕ) (leg : ℕ → Status → ℕ) (legs : ℕ) : Type 0 where
  pub some : whole status.Ok ≤ sum_by (λ k. leg k status.Ok) (range_with_len 0 (legs - 0))
  pub any : (k : ℕ) → k < legs → leg k status.Ok ≤ whole status.Ok
  pub failed : 1 ≤ whole status.Ok + whole status.Io

module _ (ends : Fragment → Status) where
  one_piece : (number : ℕ) (p : Plan) (end : Status) → may ends (Pieces number (also p none)) end ≡ may ends p end
  unfolding may_end each_may_end some_may_end
  one_piece number p status.Ok = and_true (may_end ends p status.Ok)
  one_piece number p status.Io = or_false (may_end ends p status.Io)
  one_piece number p status.Medium = or_false (may_end ends p status.Medium)
  one_piece number p status.NoSpace = or_false (may_end ends p status.NoSpace)

  more_pieces : (number : ℕ) (p : Plan) (rest : Plans) → IsOfParts (may ends (Pieces number (also p rest))) (may ends p) (may ends (Pieces number rest))
  unfolding may_end each_may_end some_may_end
  more_pieces number p rest =
      let well = and_both (may_end ends p status.Ok) (each_may_end ends rest status.Ok) in
      record { other = others; unwell = well.0; well = well.1 }
    where
      others : (end : Status) → (end ≢ status.Ok)
          → (may ends p end ≤ may ends (Pieces number (also p rest)) end) × (may ends (Pieces number rest) end ≤ may ends (Pieces number (also p rest)) end)
      others status.Ok ne = absurd (ne refl)
      others status.Io ne = or_both (may_end ends p status.Io) (some_may_end ends rest status.Io)
      others status.Medium ne = or_both (may_end ends p status.Medium) (some_may_end ends rest status.Medium)
      others status.NoSpace ne = or_both (may_end ends p status.NoSpace) (some_may_end ends rest status.NoSpace)

  some_each : (f : ℕ → Plan) (ks : List ℕ) (end : Status) → yes (some_may_end ends (plans_of f ks) end) ≤ sum_by (λ k. may ends (f k) end) ks
  unfolding some_may_end plans_of
  some_each f [] end = omega arith
  some_each f (k ∷ ks) end =
      omega (arith, or_some (may_end ends (f k) end) (some_may_end ends (plans_of f ks) end), sum_by-cons (λ k. may ends (f k) end) k ks, some_each f ks end)

  each_some : (f : ℕ → Plan) (n a k : ℕ) (end : Status) → a ≤ k → k < a + n → may ends (f k) end ≤ yes (some_may_end ends (plans_of f (range_with_len a n)) end)
  unfolding some_may_end plans_of
  each_some f zero a k end ge lt = absurd (omega (arith, ge, lt))
  each_some f (suc n) a k end ge lt = by_place (same_or_not k a) (λ ne. each_some f n (a + 1) k end (omega (arith, ge, ne)) (omega (arith, lt)))
    where
      by_place : (k ≡ a) ⊎ (k ≢ a) → ((k ≢ a) → may ends (f k) end ≤ yes (some_may_end ends (plans_of f (range_with_len (a + 1) n)) end))
          → may ends (f k) end ≤ yes (may_end ends (f a) end || some_may_end ends (plans_of f (range_with_len (a + 1) n)) end)
      by_place (inl e) later = omega (arith, ap (λ j. may ends (f j) end) e, (or_both (may_end ends (f a) end) (some_may_end ends (plans_of f (range_with_len (a + 1) n)) end)).0)
      by_place (inr ne) later = omega (arith, later ne, (or_both (may_end ends (f a) end) (some_may_end ends (plans_of f (range_with_len (a + 1) n)) end)).1)

  legs_of_plan : (number : ℕ) (f : ℕ → Plan) (n : ℕ) → IsOfLegs (may ends (Legs number (plans_of f (range_with_len 0 n)))) (λ k. may ends (f k)) n
  unfolding may_end
  legs_of_plan number f n =
      let all : n - 0 ≡ n = omega arith in
      record {
        some = omega (arith, some_each f (range_with_len 0 n) status.Ok, ap (λ m. sum_by (λ k. may ends (f k) status.Ok) (range_with_len 0 m)) all);
        any = λ k lt. each_some f n 0 k status.Ok (omega arith) (omega (arith, lt));
        failed = one_of_two (some_may_end ends (plans_of f (range_with_len 0 n)) status.Ok);
      }

  -- a run that may end well can end with nothing else
  pub plan_alone : (p : Plan) (end : Status) → (end ≢ status.Ok) → may ends p end + may ends p status.Ok ≤ 1
  plan_alone p end ne = by_tests (may_end ends p end) (may_end ends p status.Ok) refl refl
    where
      by_tests : (a b : Bool) → may_end ends p end ≡ a → may_end ends p status.Ok ≡ b → yes a + yes b ≤ 1
      by_tests true true so well = absurd (ne (ok_is_alone ends p end well so))
      by_tests true false so well = omega arith
      by_tests false true so well = omega arith
      by_tests false false so well = omega arith

  whole_may : (f : Fragment) (end : Status) → may ends (OneFragment f) end ≡ yes (status_eq end (ends f))
  unfolding may_end
  whole_may f end = refl

-- what is known of it at the devices of a stack
pub record EndingsByParts (setup : Setup) (ends : Fragment → Status) : Type 0 where
  pub lands : (bio : Bio) (end : Status) → IsThere setup bio → bio_may setup ends (landed (tree_at setup bio.dev) bio) end ≡ bio_may setup ends bio end
  pub cut : (bio hand : Item Pad) (key number : ℕ) (kind : Kind) (sizes : List ℕ) (members : ℕ → Tree) → IsThere setup bio.bio → IsCounted bio.bio
      → tree_at setup bio.bio.dev ≡ Split number kind sizes members → IsTrue (is_cut (Split number kind sizes members) bio.bio.range)
      → IsOfParts (bio_may setup ends bio.bio) (bio_may setup ends (piece bio hand (first_length kind sizes bio.bio.range) key kind sizes members).bio)
      (bio_may setup ends (split_rest bio (first_length kind sizes bio.bio.range)).bio)
  pub leg : (bio : Bio) (hand : Item Pad) (leg key : ℕ) (end : Status) → IsThere setup bio → leg < legs_of (tree_at setup bio.dev)
      → bio_may setup ends (leg_at bio hand leg key (tree_at setup bio.dev)).bio end ≡ leg_may ends (tree_at setup bio.dev) bio leg end
  pub disk : (bio : Bio) (end : Status) → IsThere setup bio → AskFits (tree_at setup bio.dev) bio.range bio.dev.0 ToPush
      → bio_may setup ends bio end ≡ yes (status_eq end (ends (fragment_of bio)))

-- at a mirror
pub mirror_may : (ends : Fragment → Status) (t : Tree) (bio : Bio) (range : Range) (dev : ℕ) (slip : SlipItem) → AskFits t range dev (ToMaster slip)
    → IsOfLegs (may ends (plan t bio.write (offset_of bio) bio.range.start bio.range.len)) (leg_may ends t bio) (legs_of t)
mirror_may ends (Leaf number sectors) bio range dev slip fits = absurd fits
mirror_may ends (Split number kind sizes members) bio range dev slip fits = absurd fits
mirror_may ends (Mirrored number sizes members) bio range dev slip fits =
    subst (λ p. IsOfLegs (may ends p) (leg_may ends (Mirrored number sizes members) bio) (length sizes))
    (sym (legs_are number sizes members bio.write (offset_of bio) bio.range.start bio.range.len))
    (legs_of_plan ends number (λ k. plan (members k) bio.write (offset_of bio) bio.range.start bio.range.len) (length sizes))

module _ (stack : Stack) (good : IsStack stack) (places : ℕ → ℕ) (ends : Fragment → Status) where
  abbrev setup : Setup
  setup = setup_of stack places

  abbrev run_can : Tree → Bio → ℕ → ℕ → ℕ → Status → ℕ
  run_can t bio offset start len end = may ends (plan t bio.write offset start len) end

  whole_run : (end : Status) → IsWhole stack good places (λ bio. bio_may setup ends bio end)
  whole_run end bio device found cuts to whole =
      let sizes = sizes_at stack device in
      let members = members_at stack bio.dev.0 device in
      let n : ℕ = first_length device.kind sizes bio.range in
      let run = to.run in
      let some = run.some in
      let o : ℕ = offset_of bio in
      let first : Plan = plan (members (slot device.kind sizes bio.range.start).member) bio.write o (slot device.kind sizes bio.range.start).at n in
      let plans : piece_plans device.kind sizes members bio.write o bio.range.start bio.range.len ≡ also first none =
      piece_plans_one device.kind sizes members bio.write o bio.range.start bio.range.len n (heads_cut stack good bio.dev.0 device found cuts) (omega (arith, some, whole)) refl whole in
      let a : bio_may setup ends bio end ≡ may ends (Pieces bio.dev.0 (also first none)) end =
      ap (λ t. run_can t bio o bio.range.start bio.range.len end) (cuts_is stack good bio.dev.0 device found cuts)
      ∙ ap (λ p. may ends p end) (pieces_are bio.dev.0 device.kind sizes members bio.write o bio.range.start bio.range.len)
      ∙ ap (λ ps. may ends (Pieces bio.dev.0 ps) end) plans in
      let b : may ends first end ≡ run_can (tree stack to.dev.0) bio o (slot device.kind sizes bio.range.start).at bio.range.len end =
      ap (λ t. run_can t bio o (slot device.kind sizes bio.range.start).at n end) to.is
      ∙ ap (λ l. run_can (tree stack to.dev.0) bio o (slot device.kind sizes bio.range.start).at l end) whole in
      omega (arith, a, one_piece ends bio.dev.0 first end, b)

  CutOf : Item Pad → Item Pad → ℕ → Tree → Type 0
  CutOf bio hand key (Split number kind sizes members) = IsTrue (is_cut (Split number kind sizes members) bio.bio.range)
      → IsOfParts (bio_may setup ends bio.bio) (bio_may setup ends (piece bio hand (first_length kind sizes bio.bio.range) key kind sizes members).bio)
      (bio_may setup ends (split_rest bio (first_length kind sizes bio.bio.range)).bio)
  CutOf bio hand key (Leaf number sectors) = Unit {0}
  CutOf bio hand key (Mirrored number sizes members) = Unit {0}

  cut_of : (bio hand : Item Pad) (key : ℕ) → IsThere setup bio.bio → IsCounted bio.bio → CutOf bio hand key (tree stack bio.bio.dev.0)
  unfolding CutOf
  cut_of bio hand key is counted = of_each_shape stack good places (CutOf bio hand key) bio.bio.dev.0 is.device (λ sectors. tt) here (λ device found e. tt)
    where
      here : (device : Device) → slice_get stack.devices.items bio.bio.dev.0 ≡ Some device → shape_of device.kind ≡ Cuts
          → IsTrue (is_cut (Split bio.bio.dev.0 device.kind (sizes_at stack device) (members_at stack bio.bio.dev.0 device)) bio.bio.range)
          → IsOfParts (bio_may setup ends bio.bio)
          (bio_may setup ends (piece bio hand (first_length device.kind (sizes_at stack device) bio.bio.range) key device.kind (sizes_at stack device) (members_at stack bio.bio.dev.0 device)).bio)
          (bio_may setup ends (split_rest bio (first_length device.kind (sizes_at stack device) bio.bio.range)).bio)
      here device found e many =
          let range = bio.bio.range in
          let number : ℕ = bio.bio.dev.0 in
          let sizes = sizes_at stack device in
          let members = members_at stack bio.bio.dev.0 device in
          let n : ℕ = first_length device.kind sizes range in
          let to = goes stack good number device found e range is.some is.within in
          let run = to.run in
          let within = run.within in
          let some = is.some in
          let ne : n ≢ range.len = λ q. search (many, q, arith) in
          let fewer : n < range.len = omega (arith, ne, within) in
          let m : Tree = members (slot device.kind sizes range.start).member in
          let at : ℕ = (slot device.kind sizes range.start).at in
          let dev : tree_number m ≡ to.dev.0 = ap tree_number to.is ∙ number_of_tree stack to.dev.0 in
          let o : ℕ = offset_of bio.bio in
          let child = (piece bio hand n key device.kind sizes members).bio in
          let rest = (split_rest bio n).bio in
          let place : offset_of rest ≡ o + n = place_on o n (omega (arith, counted, fewer)) in
          let first : Plan = plan m bio.bio.write o at n in
          let others : Plans = piece_plans device.kind sizes members bio.bio.write (o + n) (range.start + n) (range.len - n) in
          let cuts = cuts_is stack good number device found e in
          let whole_is : plan (tree stack number) bio.bio.write o range.start range.len ≡ Pieces number (also first others) =
          ap (λ t. plan t bio.bio.write o range.start range.len) cuts
          ∙ pieces_are number device.kind sizes members bio.bio.write o range.start range.len
          ∙ ap (Pieces number) (piece_plans_first device.kind sizes members bio.bio.write o range.start range.len n (heads_cut stack good number device found e) (omega (arith, some)) refl) in
          let child_is : plan (tree stack (tree_number m)) bio.bio.write o at n ≡ first =
          ap (λ k. plan (tree stack k) bio.bio.write o at n) dev ∙ ap (λ t. plan t bio.bio.write o at n) (sym to.is) in
          let rest_is : plan (tree stack number) bio.bio.write (offset_of rest) (range.start + n) (range.len - n) ≡ Pieces number others =
          ap (λ k. plan (tree stack number) bio.bio.write k (range.start + n) (range.len - n)) place
          ∙ ap (λ t. plan t bio.bio.write (o + n) (range.start + n) (range.len - n)) cuts
          ∙ pieces_are number device.kind sizes members bio.bio.write (o + n) (range.start + n) (range.len - n) in
          subst (λ p. IsOfParts (may ends p) (bio_may setup ends child) (bio_may setup ends rest)) (sym whole_is)
          (subst (λ p. IsOfParts (may ends (Pieces number (also first others))) (may ends p) (bio_may setup ends rest)) (sym child_is)
          (subst (λ p. IsOfParts (may ends (Pieces number (also first others))) (may ends first) (may ends p)) (sym rest_is)
          (more_pieces ends number first others)))

  leg_of : (bio : Bio) (hand : Item Pad) (leg key : ℕ) (end : Status) → IsThere setup bio → leg < legs_of (tree stack bio.dev.0)
      → bio_may setup ends (leg_at bio hand leg key (tree stack bio.dev.0)).bio end ≡ leg_may ends (tree stack bio.dev.0) bio leg end
  leg_of bio hand leg key end is lt = by_tree (tree stack bio.dev.0) (legs_go_down stack good bio.dev.0 leg is.device) lt
    where
      by_tree : (t : Tree) → GoesDown stack t leg → leg < legs_of t → bio_may setup ends (leg_at bio hand leg key t).bio end ≡ leg_may ends t bio leg end
      by_tree (Mirrored number sizes members) goes lt = ap (λ t. run_can t bio (offset_of bio) bio.range.start bio.range.len end) (goes lt)
      by_tree (Leaf number sectors) goes lt = absurd (omega arith)
      by_tree (Split number kind sizes members) goes lt = absurd (omega arith)

  DiskOf : Bio → Status → Tree → Type 0
  DiskOf bio end t = AskFits t bio.range bio.dev.0 ToPush → run_can t bio (offset_of bio) bio.range.start bio.range.len end ≡ yes (status_eq end (ends (fragment_of bio)))

  disk_of : (bio : Bio) (end : Status) → IsThere setup bio → DiskOf bio end (tree stack bio.dev.0)
  unfolding DiskOf
  disk_of bio end is = of_each_shape stack good places (DiskOf bio end) bio.dev.0 is.device here (λ device found e fits. absurd fits) (λ device found e fits. absurd fits)
    where
      here : (sectors : ℕ) → DiskOf bio end (Leaf bio.dev.0 sectors)
      here sectors fits = ap (λ p. may ends p end) (whole_is bio.dev.0 sectors bio.write (offset_of bio) bio.range.start bio.range.len) ∙ whole_may ends (fragment_of bio) end

  pub endings_by_parts : EndingsByParts setup ends
  unfolding CutOf DiskOf
  endings_by_parts = record {
    lands = λ bio end is. (falls stack good places (λ bio. bio_may setup ends bio end) (whole_run end) (bio.dev.0 + 1) bio (omega arith) is).same;
    cut = λ bio hand key number kind sizes members is counted at many.
        let a : CutOf bio hand key (Split number kind sizes members) = subst (CutOf bio hand key) at (cut_of bio hand key is counted) in a many;
    leg = λ bio hand leg key end is lt. leg_of bio hand leg key end is lt;
    disk = λ bio end is fits. disk_of bio end is fits;
  }
