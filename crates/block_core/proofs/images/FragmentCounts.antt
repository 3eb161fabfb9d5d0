-- What the fragments of bios count, as they land, are cut and are copied.
use Rattle.std.proofs.Common.{◌≡◌, ◌≢◌, ◌+◌, ◌-◌, ◌%◌, ◌^◌, ◌<◌, ◌≤◌, ℕ, zero, suc, IsTrue, List, [], length, Some, refl, sym, ◌∙◌, ap, subst, arith}
use Rattle.std.specs.Prelude.{slice_get, sum_by}
use Rattle.std.specs.List.{range_with_len, flat_map}
use Rattle.std.proofs.lemmas.List.Sums.{sum_by-cons, sum_by-append}
use Rattle.stack_base.specs.declared.ids.Range.{Range}
use Rattle.stack_base.specs.declared.stack.Device.{Device}
use Rattle.stack_base.specs.declared.stack.Stack.{Stack}
use Rattle.stack_base.specs.declared.stack.Kind.{Kind}
use Rattle.stack_base.specs.Stack.{IsStack}
use Rattle.stack_base.specs.Mapping.{slot}
use Rattle.stack_base.specs.Tree.{Tree, Leaf, Split, Mirrored, Cuts, shape_of, tree, sizes_at}
use Rattle.layout_model.specs.declared.fragment.Fragment.{Fragment}
use Rattle.layout_model.specs.Plan.{frags, leaves, plan}
use Rattle.layout_model.proofs.Planned.{leaves_plan}
use Rattle.layout_model.proofs.Steps.{cut_none}
use Rattle.bio_records.specs.declared.bio.Bio.{Bio}
use Rattle.bio_records.specs.declared.bio.Pad.{Pad}
use Rattle.bio_records.specs.Items.{Item}
use Rattle.bio_records.specs.Runs.{place_number, place_at}
use Rattle.bio_records.proofs.RunLemmas.{number_of_place}
use Rattle.bio_split.specs.Split.{split_rest}
use Rattle.bio_books.specs.Books.{SlipItem}
use Rattle.run_machine.specs.Scene.{Setup, tree_at, tree_number, setup_of}
use Rattle.run_machine.specs.Submissions.{ToPush, ToMaster, first_length, landed, legs_of, leg_at, is_cut}
use Rattle.block_core.specs.Fragments.{offset_of, fragment_of, bio_fragments, leg_fragments}
use Rattle.block_core.proofs.moves.Moves.{piece}
use Rattle.run_machine.proofs.TreeNumbers.{number_of_tree}
use Rattle.block_core.proofs.moves.Geometry.{IsThere, IsWhole, falls, goes, members_at, of_each_shape}
use Rattle.block_core.proofs.moves.LegTrees.{GoesDown, legs_go_down}
use Rattle.block_core.proofs.sound.Orders.{AskFits}

abbrev pub fragments_worth : Setup → (Fragment → ℕ) → Bio → ℕ
fragments_worth setup value bio = sum_by value (bio_fragments setup bio)

abbrev pub leg_worth : Setup → (Fragment → ℕ) → Bio → ℕ → ℕ
leg_worth setup value bio leg = sum_by value (leg_fragments (tree_at setup bio.dev) bio leg)

-- a bio whose places do not wrap
abbrev pub IsCounted : Bio → Type 0
IsCounted bio = offset_of bio + bio.range.len ≤ 2 ^ 35

-- what is known of fragments at the devices of a stack
pub record Divided (setup : Setup) (value : Fragment → ℕ) : Type 0 where
  pub lands : (bio : Bio) → IsThere setup bio → fragments_worth setup value (landed (tree_at setup bio.dev) bio) ≡ fragments_worth setup value bio
  pub cut : (bio hand : Item Pad) (key number : ℕ) (kind : Kind) (sizes : List ℕ) (members : ℕ → Tree) → IsThere setup bio.bio → IsCounted bio.bio
      → tree_at setup bio.bio.dev ≡ Split number kind sizes members → IsTrue (is_cut (Split number kind sizes members) bio.bio.range)
      → fragments_worth setup value bio.bio ≡ fragments_worth setup value (piece bio hand (first_length kind sizes bio.bio.range) key kind sizes members).bio
      + fragments_worth setup value (split_rest bio (first_length kind sizes bio.bio.range)).bio
  pub leg : (bio : Bio) (hand : Item Pad) (leg key : ℕ) → IsThere setup bio → leg < legs_of (tree_at setup bio.dev)
      → fragments_worth setup value (leg_at bio hand leg key (tree_at setup bio.dev)).bio ≡ leg_worth setup value bio leg
  pub disk : (bio : Bio) → IsThere setup bio → AskFits (tree_at setup bio.dev) bio.range bio.dev.0 ToPush → fragments_worth setup value bio ≡ value (fragment_of bio)

-- a place that does not wrap
pub place_on : (p n : ℕ) → p + n < 2 ^ 35 → place_number (place_at ((p + n) % 2 ^ 35)) ≡ p + n
place_on p n lt =
    let small : (p + n) % 2 ^ 35 ≡ p + n = omega (arith, lt) in
    ap (λ k. place_number (place_at k)) small ∙ number_of_place (p + n)

-- the fragments of all legs
legs_sum : (value : Fragment → ℕ) (f g : ℕ → List Fragment) (n a : ℕ) → ((k : ℕ) → f k ≡ g k) → sum_by value (flat_map f (range_with_len a n)) ≡ sum_by (λ k. sum_by value (g k)) (range_with_len a n)
legs_sum value f g zero a same = refl
legs_sum value f g (suc n) a same =
    omega (
      arith,
      sum_by-append value (f a) (flat_map f (range_with_len (a + 1) n)),
      ap (sum_by value) (same a),
      sum_by-cons (λ k. sum_by value (g k)) a (range_with_len (a + 1) n),
      legs_sum value f g n (a + 1) same,
    )

-- those of a bio at a mirror are those of its legs
pub mirror_worth : (t : Tree) (value : Fragment → ℕ) (bio : Bio) (range : Range) (dev : ℕ) (slip : SlipItem) → AskFits t range dev (ToMaster slip)
    → sum_by (λ k. sum_by value (leg_fragments t bio k)) (range_with_len 0 (legs_of t - 0)) ≡ sum_by value (leaves (plan t bio.write (offset_of bio) bio.range.start bio.range.len))
unfolding frags
mirror_worth (Mirrored number sizes members) value bio range dev slip fits =
    let all : length sizes - 0 ≡ length sizes = omega arith in
    let a = ap (sum_by value) (leaves_plan (Mirrored number sizes members) bio.write (offset_of bio) bio.range.start bio.range.len) in
    let b = legs_sum value (λ k. frags (members k) bio.write (offset_of bio) bio.range.start bio.range.len) (leg_fragments (Mirrored number sizes members) bio) (length sizes) 0
    (λ k. sym (leaves_plan (members k) bio.write (offset_of bio) bio.range.start bio.range.len)) in
    ap (λ n. sum_by (λ k. sum_by value (leg_fragments (Mirrored number sizes members) bio k)) (range_with_len 0 n)) all ∙ sym b ∙ sym a
mirror_worth (Leaf number sectors) value bio range dev slip fits = absurd fits
mirror_worth (Split number kind sizes members) value bio range dev slip fits = absurd fits

-- the first of the legs that are left
pub legs_next : (f : ℕ → ℕ) (all leg : ℕ) → leg < all → sum_by f (range_with_len leg (all - leg)) ≡ f leg + sum_by f (range_with_len (leg + 1) (all - (leg + 1)))
legs_next f all leg lt =
    let one_more : all - leg ≡ suc (all - (leg + 1)) = omega arith in
    ap (λ n. sum_by f (range_with_len leg n)) one_more ∙ sum_by-cons f leg (range_with_len (leg + 1) (all - (leg + 1)))

pub legs_none : (f : ℕ → ℕ) (all : ℕ) → sum_by f (range_with_len all (all - all)) ≡ 0
legs_none f all = let none : all - all ≡ 0 = omega arith in ap (λ n. sum_by f (range_with_len all n)) none

module _ (stack : Stack) (good : IsStack stack) (places : ℕ → ℕ) (value : Fragment → ℕ) where
  abbrev setup : Setup
  setup = setup_of stack places

  -- the same by the layout's list
  listed : Bio → ℕ
  listed bio = sum_by value (frags (tree stack bio.dev.0) bio.write (offset_of bio) bio.range.start bio.range.len)

  worth_is : (bio : Bio) → fragments_worth setup value bio ≡ listed bio
  unfolding listed
  worth_is bio = ap (sum_by value) (leaves_plan (tree stack bio.dev.0) bio.write (offset_of bio) bio.range.start bio.range.len)

  whole_run : IsWhole stack good places (fragments_worth setup value)
  unfolding listed
  whole_run bio device found cuts_it to whole =
      let range = bio.range in
      let run = to.run in
      let n : ℕ = first_length device.kind (sizes_at stack device) range in
      let at : ℕ = (slot device.kind (sizes_at stack device) range.start).at in
      let parts = run.rest bio.write (offset_of bio) in
      let none : range.len - n ≡ 0 = omega (arith, whole) in
      let rest : frags (tree stack bio.dev.0) bio.write (offset_of bio + n) (range.start + n) (range.len - n) ≡ [] =
      ap (frags (tree stack bio.dev.0) bio.write (offset_of bio + n) (range.start + n)) none ∙ cut_none stack good bio.dev.0 device found cuts_it bio.write (offset_of bio + n) (range.start + n) in
      let first = frags (tree stack to.dev.0) bio.write (offset_of bio) at n in
      let second = frags (tree stack bio.dev.0) bio.write (offset_of bio + n) (range.start + n) (range.len - n) in
      let same_len : frags (tree stack to.dev.0) bio.write (offset_of bio) at n ≡ frags (tree stack to.dev.0) bio.write (offset_of bio) at range.len =
      ap (frags (tree stack to.dev.0) bio.write (offset_of bio) at) whole in
      let next : Bio = record bio { dev = to.dev; range = record { start = at; len = range.len } } in
      let a = ap (sum_by value) parts in
      let b = sum_by-append value first second in
      let c : sum_by value second ≡ 0 = ap (sum_by value) rest in
      let d = ap (sum_by value) same_len in
      omega (arith, worth_is next, worth_is bio, a, b, c, d)

  leg_of : (bio : Bio) (hand : Item Pad) (leg key : ℕ) → IsThere setup bio → leg < legs_of (tree stack bio.dev.0)
      → fragments_worth setup value (leg_at bio hand leg key (tree stack bio.dev.0)).bio ≡ sum_by value (leg_fragments (tree stack bio.dev.0) bio leg)
  leg_of bio hand leg key is lt = by_tree (tree stack bio.dev.0) (legs_go_down stack good bio.dev.0 leg is.device) lt
    where
      by_tree : (t : Tree) → GoesDown stack t leg → leg < legs_of t → fragments_worth setup value (leg_at bio hand leg key t).bio ≡ sum_by value (leg_fragments t bio leg)
      by_tree (Mirrored number sizes members) goes lt = ap (λ t. sum_by value (leaves (plan t bio.write (offset_of bio) bio.range.start bio.range.len))) (goes lt)
      by_tree (Leaf number sectors) goes lt = absurd (omega arith)
      by_tree (Split number kind sizes members) goes lt = absurd (omega arith)

  CutOf : Item Pad → Item Pad → ℕ → Tree → Type 0
  CutOf bio hand key (Split number kind sizes members) = IsTrue (is_cut (Split number kind sizes members) bio.bio.range)
      → fragments_worth setup value bio.bio ≡ fragments_worth setup value (piece bio hand (first_length kind sizes bio.bio.range) key kind sizes members).bio
      + fragments_worth setup value (split_rest bio (first_length kind sizes bio.bio.range)).bio
  CutOf bio hand key (Leaf number sectors) = Unit {0}
  CutOf bio hand key (Mirrored number sizes members) = Unit {0}

  cut_of : (bio hand : Item Pad) (key : ℕ) → IsThere setup bio.bio → IsCounted bio.bio → CutOf bio hand key (tree stack bio.bio.dev.0)
  unfolding CutOf listed
  cut_of bio hand key is counted = of_each_shape stack good places (CutOf bio hand key) bio.bio.dev.0 is.device (λ sectors. tt) here (λ device found e. tt)
    where
      here : (device : Device) → slice_get stack.devices.items bio.bio.dev.0 ≡ Some device → shape_of device.kind ≡ Cuts
          → IsTrue (is_cut (Split bio.bio.dev.0 device.kind (sizes_at stack device) (members_at stack bio.bio.dev.0 device)) bio.bio.range)
          → fragments_worth setup value bio.bio
          ≡ fragments_worth setup value (piece bio hand (first_length device.kind (sizes_at stack device) bio.bio.range) key device.kind (sizes_at stack device) (members_at stack bio.bio.dev.0 device)).bio
          + fragments_worth setup value (split_rest bio (first_length device.kind (sizes_at stack device) bio.bio.range)).bio
      here device found e many =
          let range = bio.bio.range in
          let sizes = sizes_at stack device in
          let members = members_at stack bio.bio.dev.0 device in
          let n : ℕ = first_length device.kind sizes range in
          let to = goes stack good bio.bio.dev.0 device found e range is.some is.within in
          let run = to.run in
          let within = run.within in
          let ne : n ≢ range.len = λ q. search (many, q, arith) in
          let fewer : n < range.len = omega (arith, ne, within) in
          let dev : tree_number (members (slot device.kind sizes range.start).member) ≡ to.dev.0 = ap tree_number to.is ∙ number_of_tree stack to.dev.0 in
          let at : ℕ = (slot device.kind sizes range.start).at in
          let o : ℕ = offset_of bio.bio in
          let child = (piece bio hand n key device.kind sizes members).bio in
          let rest = (split_rest bio n).bio in
          let place : offset_of rest ≡ o + n = place_on o n (omega (arith, counted, fewer)) in
          let a = ap (sum_by value) (run.rest bio.bio.write o) in
          let b = sum_by-append value (frags (tree stack to.dev.0) bio.bio.write o at n) (frags (tree stack bio.bio.dev.0) bio.bio.write (o + n) (range.start + n) (range.len - n)) in
          let c : listed child ≡ sum_by value (frags (tree stack to.dev.0) bio.bio.write o at n) = ap (λ k. sum_by value (frags (tree stack k) bio.bio.write o at n)) dev in
          let d : listed rest ≡ sum_by value (frags (tree stack bio.bio.dev.0) bio.bio.write (o + n) (range.start + n) (range.len - n)) =
          ap (λ k. sum_by value (frags (tree stack bio.bio.dev.0) bio.bio.write k (range.start + n) (range.len - n))) place in
          omega (arith, worth_is bio.bio, worth_is child, worth_is rest, a, b, c, d)

  DiskOf : Bio → Tree → Type 0
  DiskOf bio t = AskFits t bio.range bio.dev.0 ToPush → sum_by value (leaves (plan t bio.write (offset_of bio) bio.range.start bio.range.len)) ≡ value (fragment_of bio)

  disk_of : (bio : Bio) → IsThere setup bio → DiskOf bio (tree stack bio.dev.0)
  unfolding DiskOf plan leaves
  disk_of bio is = of_each_shape stack good places (DiskOf bio) bio.dev.0 is.device here (λ device found e fits. absurd fits) (λ device found e fits. absurd fits)
    where
      here : (sectors : ℕ) → DiskOf bio (Leaf bio.dev.0 sectors)
      here sectors fits = sum_by-cons value (fragment_of bio) [] ∙ omega arith

  pub divided : Divided setup value
  unfolding CutOf DiskOf
  divided = record {
    lands = λ bio is. (falls stack good places (fragments_worth setup value) whole_run (bio.dev.0 + 1) bio (omega arith) is).same;
    cut = λ bio hand key number kind sizes members is counted at many.
        let a : CutOf bio hand key (Split number kind sizes members) = subst (CutOf bio hand key) at (cut_of bio hand key is counted) in a many;
    leg = λ bio hand leg key is lt. leg_of bio hand leg key is lt;
    disk = λ bio is fits. disk_of bio is fits;
  }
