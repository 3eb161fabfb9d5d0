-- What bios are charged at the devices of a stack.
use Rattle.std.proofs.Common.{◌≡◌, ◌≢◌, ◌+◌, ◌-◌, ◌<◌, ◌≤◌, ℕ, suc, IsTrue, List, length, Some, refl, sym, ◌∙◌, ap, subst, arith}
use Rattle.std.specs.Prelude.{slice_get, sum_by}
use Rattle.std.specs.List.{range_with_len}
use Rattle.stack_base.specs.declared.ids.Range.{Range}
use Rattle.stack_base.specs.declared.stack.Device.{Device}
use Rattle.stack_base.specs.declared.stack.Stack.{Stack}
use Rattle.stack_base.specs.declared.stack.Kind.{Kind}
use Rattle.stack_base.specs.Stack.{IsStack}
use Rattle.stack_base.specs.Tree.{Tree, Leaf, Split, Mirrored, tree, sizes_at}
use Rattle.layout_model.proofs.RangeSums.{sum_next, sum_of_two}
use Rattle.stack_base.specs.Mapping.{slot}
use Rattle.block_core.proofs.bound.RunCharges.{charge_disk, charge_piece, charge_more, charge_legs}
use Rattle.bio_records.specs.declared.bio.Bio.{Bio}
use Rattle.bio_records.specs.declared.bio.Pad.{Pad}
use Rattle.bio_records.specs.Items.{Item}
use Rattle.bio_split.specs.Split.{split_rest}
use Rattle.bio_books.specs.Books.{SlipItem}
use Rattle.run_machine.specs.Scene.{Setup, tree_at, tree_number, setup_of}
use Rattle.run_machine.specs.Submissions.{Want, ToPush, ToCut, ToMaster, first_length, landed, legs_of, leg_at, is_cut}
use Rattle.block_core.specs.Charges.{run_charge, bio_run_charge, leg_charge}
use Rattle.block_core.specs.Payers.{Record, PieceBio, Fragment, Paid, cost}
use Rattle.block_core.proofs.moves.Moves.{piece}
use Rattle.run_machine.proofs.TreeNumbers.{number_of_tree}
use Rattle.block_core.proofs.moves.Geometry.{IsThere, IsWhole, falls, goes, members_at, of_each_shape, heads_cut}
use Rattle.block_core.proofs.moves.LegTrees.{GoesDown, legs_go_down}
use Rattle.block_core.proofs.sound.Orders.{AskFits}
use Rattle.stack_base.specs.Tree.{Cuts, shape_of}
use Rattle.layout_model.proofs.ByShape.{cuts_is}

-- what is known of charges at the devices of a stack
pub record Priced (price : Paid → ℕ) (setup : Setup) : Type 0 where
  pub lands : (bio : Bio) → IsThere setup bio → bio_run_charge price setup (landed (tree_at setup bio.dev) bio) ≡ bio_run_charge price setup bio
  pub cut : (bio hand : Item Pad) (key number : ℕ) (kind : Kind) (sizes : List ℕ) (members : ℕ → Tree) → IsThere setup bio.bio
      → tree_at setup bio.bio.dev ≡ Split number kind sizes members → IsTrue (is_cut (Split number kind sizes members) bio.bio.range)
      → bio_run_charge price setup bio.bio ≡ cost price PieceBio + bio_run_charge price setup (piece bio hand (first_length kind sizes bio.bio.range) key kind sizes members).bio
      + bio_run_charge price setup (split_rest bio (first_length kind sizes bio.bio.range)).bio
  pub leg : (bio : Bio) (hand : Item Pad) (leg key : ℕ) → IsThere setup bio → leg < legs_of (tree_at setup bio.dev)
      → cost price PieceBio + bio_run_charge price setup (leg_at bio hand leg key (tree_at setup bio.dev)).bio ≡ leg_charge price (tree_at setup bio.dev) bio.range leg

module _ (price : Paid → ℕ) where
  -- a bio at a disk has a fragment
  pub leaf_charge : (t : Tree) (range : Range) (dev : ℕ) → AskFits t range dev ToPush → 1 ≤ range.len → run_charge price t range.start range.len ≡ cost price Fragment
  leaf_charge (Leaf number sectors) range dev fits some = charge_disk price number sectors range.start range.len some
  leaf_charge (Split number kind sizes members) range dev fits some = absurd fits
  leaf_charge (Mirrored number sizes members) range dev fits some = absurd fits

  -- a bio at a mirror needs a record beside its legs
  pub mirror_charge : (t : Tree) (range : Range) (dev : ℕ) (slip : SlipItem) → AskFits t range dev (ToMaster slip) → 1 ≤ range.len
      → cost price Record + sum_by (leg_charge price t range) (range_with_len 0 (legs_of t - 0)) ≡ run_charge price t range.start range.len
  mirror_charge (Mirrored number sizes members) range dev slip fits some =
      let f : ℕ → ℕ = λ k. run_charge price (members k) range.start range.len in
      let all : length sizes - 0 ≡ length sizes = omega arith in
      let same : sum_by (leg_charge price (Mirrored number sizes members) range) (range_with_len 0 (length sizes - 0)) ≡ sum_by (λ k. cost price PieceBio + f k) (range_with_len 0 (length sizes)) =
      ap (λ n. sum_by (leg_charge price (Mirrored number sizes members) range) (range_with_len 0 n)) all in
      omega (arith, same, charge_legs price number sizes members range.start range.len some, sum_of_two (λ (k : ℕ). cost price PieceBio) f (range_with_len 0 (length sizes)))
  mirror_charge (Leaf number sectors) range dev slip fits some = absurd fits
  mirror_charge (Split number kind sizes members) range dev slip fits some = absurd fits

  -- a cut needs an element
  pub cut_needs : (setup : Setup) → Priced price setup → (bio : Item Pad) (want : Want) (t : Tree) → tree_at setup bio.bio.dev ≡ t → IsThere setup bio.bio → AskFits t bio.bio.range bio.bio.dev.0 (ToCut want)
      → cost price PieceBio ≤ bio_run_charge price setup bio.bio
  cut_needs setup p bio want (Split number kind sizes members) same is fits = omega (arith, p.cut bio bio 0 number kind sizes members is same fits.0)
  cut_needs setup p bio want (Leaf number sectors) same is fits = absurd fits
  cut_needs setup p bio want (Mirrored number sizes members) same is fits = absurd fits

  -- the first of the legs that are left
  pub legs_next : (t : Tree) (range : Range) (leg : ℕ) → leg < legs_of t
      → sum_by (leg_charge price t range) (range_with_len leg (legs_of t - leg))
      ≡ leg_charge price t range leg + sum_by (leg_charge price t range) (range_with_len (leg + 1) (legs_of t - (leg + 1)))
  legs_next t range leg lt =
      let one_more : legs_of t - leg ≡ suc (legs_of t - (leg + 1)) = omega arith in
      ap (λ n. sum_by (leg_charge price t range) (range_with_len leg n)) one_more ∙ sum_next (leg_charge price t range) leg (legs_of t - (leg + 1))

  -- no leg has less than its bio
  pub leg_some : (t : Tree) (range : Range) (leg : ℕ) → leg < legs_of t → cost price PieceBio ≤ leg_charge price t range leg
  leg_some (Mirrored number sizes members) range leg lt = omega arith
  leg_some (Leaf number sectors) range leg lt = absurd (omega arith)
  leg_some (Split number kind sizes members) range leg lt = absurd (omega arith)

module _ (price : Paid → ℕ) (stack : Stack) (good : IsStack stack) (places : ℕ → ℕ) where
  abbrev setup : Setup
  setup = setup_of stack places

  leg_of : (bio : Bio) (hand : Item Pad) (leg key : ℕ) → IsThere setup bio → leg < legs_of (tree stack bio.dev.0)
      → cost price PieceBio + bio_run_charge price setup (leg_at bio hand leg key (tree stack bio.dev.0)).bio ≡ leg_charge price (tree stack bio.dev.0) bio.range leg
  leg_of bio hand leg key is lt = by_tree (tree stack bio.dev.0) (legs_go_down stack good bio.dev.0 leg is.device) lt
    where
      by_tree : (t : Tree) → GoesDown stack t leg → leg < legs_of t → cost price PieceBio + bio_run_charge price setup (leg_at bio hand leg key t).bio ≡ leg_charge price t bio.range leg
      by_tree (Mirrored number sizes members) goes lt = ap (λ t. cost price PieceBio + run_charge price t bio.range.start bio.range.len) (goes lt)
      by_tree (Leaf number sectors) goes lt = absurd (omega arith)
      by_tree (Split number kind sizes members) goes lt = absurd (omega arith)

  whole_run : IsWhole stack good places (bio_run_charge price setup)
  whole_run bio device found cuts_it to whole =
      let range = bio.range in
      let members = members_at stack bio.dev.0 device in
      let piece = charge_piece price bio.dev.0 device.kind (sizes_at stack device) members range.start range.len (first_length device.kind (sizes_at stack device) range) (heads_cut stack good bio.dev.0 device found cuts_it) refl whole in
      let at : ℕ = (slot device.kind (sizes_at stack device) range.start).at in
      ap (λ t. run_charge price t at range.len) (sym to.is) ∙ sym piece ∙ ap (λ t. run_charge price t range.start range.len) (sym (cuts_is stack good bio.dev.0 device found cuts_it))

  CutOf : Item Pad → Item Pad → ℕ → Tree → Type 0
  CutOf bio hand key (Split number kind sizes members) = IsTrue (is_cut (Split number kind sizes members) bio.bio.range)
      → run_charge price (Split number kind sizes members) bio.bio.range.start bio.bio.range.len
      ≡ cost price PieceBio + bio_run_charge price setup (piece bio hand (first_length kind sizes bio.bio.range) key kind sizes members).bio
      + run_charge price (Split number kind sizes members) (bio.bio.range.start + first_length kind sizes bio.bio.range) (bio.bio.range.len - first_length kind sizes bio.bio.range)
  CutOf bio hand key (Leaf number sectors) = Unit {0}
  CutOf bio hand key (Mirrored number sizes members) = Unit {0}

  cut_of : (bio hand : Item Pad) (key : ℕ) → IsThere setup bio.bio → CutOf bio hand key (tree stack bio.bio.dev.0)
  unfolding CutOf
  cut_of bio hand key is = of_each_shape stack good places (CutOf bio hand key) bio.bio.dev.0 is.device (λ sectors. tt) here (λ device found e. tt)
    where
      here : (device : Device) → slice_get stack.devices.items bio.bio.dev.0 ≡ Some device → shape_of device.kind ≡ Cuts
          → CutOf bio hand key (Split bio.bio.dev.0 device.kind (sizes_at stack device) (members_at stack bio.bio.dev.0 device))
      here device found e many =
          let range = bio.bio.range in
          let sizes = sizes_at stack device in
          let members = members_at stack bio.bio.dev.0 device in
          let n = first_length device.kind sizes range in
          let to = goes stack good bio.bio.dev.0 device found e range is.some is.within in
          let run = to.run in
          let within = run.within in
          let ne : n ≢ range.len = λ q. search (many, q, arith) in
          let fewer : n < range.len = omega (arith, ne, within) in
          let dev : tree_number (members (slot device.kind sizes range.start).member) ≡ to.dev.0 = ap tree_number to.is ∙ number_of_tree stack to.dev.0 in
          let same : tree stack (tree_number (members (slot device.kind sizes range.start).member)) ≡ members (slot device.kind sizes range.start).member = ap (tree stack) dev ∙ sym to.is in
          let at : ℕ = (slot device.kind sizes range.start).at in
          let child : run_charge price (tree stack (tree_number (members (slot device.kind sizes range.start).member))) at n ≡ run_charge price (members (slot device.kind sizes range.start).member) at n =
          ap (λ t. run_charge price t at n) same in
          let both = charge_more price bio.bio.dev.0 device.kind sizes members range.start range.len n (heads_cut stack good bio.bio.dev.0 device found e) refl fewer in
          omega (arith, child, both)

  pub priced : Priced price setup
  unfolding CutOf
  priced = record {
    lands = λ bio is. (falls stack good places (bio_run_charge price setup) whole_run (bio.dev.0 + 1) bio (omega arith) is).same;
    cut = λ bio hand key number kind sizes members is at many.
        let a : CutOf bio hand key (Split number kind sizes members) = subst (CutOf bio hand key) at (cut_of bio hand key is) in
        let b : bio_run_charge price setup bio.bio ≡ run_charge price (Split number kind sizes members) bio.bio.range.start bio.bio.range.len = ap (λ t. run_charge price t bio.bio.range.start bio.bio.range.len) at in
        let n = first_length kind sizes bio.bio.range in
        let c : bio_run_charge price setup (split_rest bio n).bio ≡ run_charge price (Split number kind sizes members) (bio.bio.range.start + n) (bio.bio.range.len - n) =
        ap (λ t. run_charge price t (bio.bio.range.start + n) (bio.bio.range.len - n)) at in
        omega (arith, a many, b, c);
    leg = λ bio hand leg key is lt. leg_of bio hand leg key is lt;
  }
