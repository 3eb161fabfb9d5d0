-- What bios still need at the devices of a stack.
use Rattle.std.proofs.Common.{◌≡◌, ◌+◌, ◌-◌, ◌<◌, ◌≤◌, ℕ, suc, zero, IsTrue, List, length, refl, ◌∙◌, ap, arith}
use Rattle.std.specs.Prelude.{sum_by}
use Rattle.std.specs.List.{range_with_len}
use Rattle.stack_base.specs.declared.ids.Range.{Range}
use Rattle.stack_base.specs.declared.stack.Stack.{Stack}
use Rattle.stack_base.specs.declared.stack.Kind.{Kind}
use Rattle.stack_base.specs.Stack.{IsStack}
use Rattle.stack_base.specs.Tree.{Tree, Leaf, Split, Mirrored, tree}
use Rattle.layout_model.specs.Need.{needed}
use Rattle.layout_model.proofs.RangeSums.{sum_next}
use Rattle.layout_model.proofs.NeedsByPieces.{needed_legs}
use Rattle.bio_records.specs.declared.bio.Bio.{Bio}
use Rattle.bio_records.specs.declared.bio.Pad.{Pad}
use Rattle.bio_records.specs.Items.{Item}
use Rattle.bio_split.specs.Split.{split_rest}
use Rattle.bio_books.specs.Books.{SlipItem}
use Rattle.run_machine.specs.Scene.{Setup, tree_at, setup_of}
use Rattle.run_machine.specs.Submissions.{Want, ToCut, ToMaster, first_length, landed, legs_of, leg_at, is_cut}
use Rattle.block_core.specs.Rooms.{need_at, leg_need}
use Rattle.block_core.proofs.moves.Moves.{piece}
use Rattle.block_core.proofs.moves.Geometry.{IsThere, lands_needs, cuts}
use Rattle.block_core.proofs.moves.LegTrees.{GoesDown, legs_go_down}
use Rattle.block_core.proofs.sound.Orders.{AskFits}

-- what is known of needs at the devices of a stack
pub record Needs (setup : Setup) : Type 0 where
  pub lands : (bio : Bio) → IsThere setup bio → need_at setup (landed (tree_at setup bio.dev) bio) ≡ need_at setup bio
  pub cut : (bio hand : Item Pad) (key number : ℕ) (kind : Kind) (sizes : List ℕ) (members : ℕ → Tree) → IsThere setup bio.bio
      → tree_at setup bio.bio.dev ≡ Split number kind sizes members → IsTrue (is_cut (Split number kind sizes members) bio.bio.range)
      → need_at setup bio.bio ≡ need_at setup (piece bio hand (first_length kind sizes bio.bio.range) key kind sizes members).bio
      + (1 + need_at setup (split_rest bio (first_length kind sizes bio.bio.range)).bio)
  pub leg : (bio : Bio) (hand : Item Pad) (leg key : ℕ) → IsThere setup bio → leg < legs_of (tree_at setup bio.dev)
      → 1 + need_at setup (leg_at bio hand leg key (tree_at setup bio.dev)).bio ≡ leg_need (tree_at setup bio.dev) bio.range leg

-- each leg has its own node
one_each : (f : ℕ → ℕ) (a n : ℕ) → sum_by (λ k. 1 + f k) (range_with_len a n) ≡ n + sum_by f (range_with_len a n)
one_each f a zero = refl
one_each f a (suc n) = omega (arith, sum_next (λ k. 1 + f k) a n, sum_next f a n, one_each f (a + 1) n)

-- a bio at a mirror needs a master beside its legs
pub mirror_need : (t : Tree) (range : Range) (dev : ℕ) (slip : SlipItem) → AskFits t range dev (ToMaster slip) → 1 ≤ range.len
    → 1 + sum_by (leg_need t range) (range_with_len 0 (legs_of t - 0)) ≡ needed t range.start range.len
mirror_need (Mirrored number sizes members) range dev slip fits some =
    let f : ℕ → ℕ = λ k. needed (members k) range.start range.len in
    let all : length sizes - 0 ≡ length sizes = omega arith in
    let same : sum_by (leg_need (Mirrored number sizes members) range) (range_with_len 0 (length sizes - 0)) ≡ sum_by (λ k. 1 + f k) (range_with_len 0 (length sizes)) =
    ap (λ n. sum_by (leg_need (Mirrored number sizes members) range) (range_with_len 0 n)) all in
    omega (arith, same, needed_legs number sizes members range.start range.len some, one_each f 0 (length sizes))
mirror_need (Leaf number sectors) range dev slip fits some = absurd fits
mirror_need (Split number kind sizes members) range dev slip fits some = absurd fits

-- a cut needs a node
pub cut_need : (setup : Setup) → Needs setup → (bio : Item Pad) (want : Want) (t : Tree) → tree_at setup bio.bio.dev ≡ t → IsThere setup bio.bio → AskFits t bio.bio.range bio.bio.dev.0 (ToCut want)
    → 1 ≤ need_at setup bio.bio
cut_need setup n bio want (Split number kind sizes members) same is fits = omega (arith, n.cut bio bio 0 number kind sizes members is same fits.0)
cut_need setup n bio want (Leaf number sectors) same is fits = absurd fits
cut_need setup n bio want (Mirrored number sizes members) same is fits = absurd fits

-- the first of the legs that are left
pub legs_on : (t : Tree) (range : Range) (leg : ℕ) → leg < legs_of t
    → sum_by (leg_need t range) (range_with_len leg (legs_of t - leg)) ≡ leg_need t range leg + sum_by (leg_need t range) (range_with_len (leg + 1) (legs_of t - (leg + 1)))
legs_on t range leg lt =
    let one_more : legs_of t - leg ≡ suc (legs_of t - (leg + 1)) = omega arith in
    ap (λ n. sum_by (leg_need t range) (range_with_len leg n)) one_more ∙ sum_next (leg_need t range) leg (legs_of t - (leg + 1))

-- no more legs are left than they need nodes
pub legs_few : (t : Tree) (range : Range) (leg : ℕ) → legs_of t - leg ≤ sum_by (leg_need t range) (range_with_len leg (legs_of t - leg))
legs_few (Mirrored number sizes members) range leg =
    omega (arith, one_each (λ k. needed (members k) range.start range.len) leg (length sizes - leg))
legs_few (Leaf number sectors) range leg = omega arith
legs_few (Split number kind sizes members) range leg = omega arith

module _ (stack : Stack) (good : IsStack stack) (places : ℕ → ℕ) where
  abbrev setup : Setup
  setup = setup_of stack places

  leg_of : (bio : Bio) (hand : Item Pad) (leg key : ℕ) → IsThere setup bio → leg < legs_of (tree stack bio.dev.0)
      → 1 + need_at setup (leg_at bio hand leg key (tree stack bio.dev.0)).bio ≡ leg_need (tree stack bio.dev.0) bio.range leg
  leg_of bio hand leg key is lt = by_tree (tree stack bio.dev.0) (legs_go_down stack good bio.dev.0 leg is.device) lt
    where
      by_tree : (t : Tree) → GoesDown stack t leg → leg < legs_of t → 1 + need_at setup (leg_at bio hand leg key t).bio ≡ leg_need t bio.range leg
      by_tree (Mirrored number sizes members) goes lt = ap (λ t. 1 + needed t bio.range.start bio.range.len) (goes lt)
      by_tree (Leaf number sectors) goes lt = absurd (omega arith)
      by_tree (Split number kind sizes members) goes lt = absurd (omega arith)

  pub needs_known : Needs setup
  needs_known = record {
    lands = λ bio is. lands_needs stack good places bio is;
    cut = λ bio hand key number kind sizes members is at many. (cuts stack good places bio hand key number kind sizes members is at many).needs_part;
    leg = λ bio hand leg key is lt. leg_of bio hand leg key is lt;
  }
