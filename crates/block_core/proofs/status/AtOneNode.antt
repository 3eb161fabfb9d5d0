-- What counts at one node of a book, and sums that are none or few.
use Rattle.std.proofs.Common.{◌≡◌, ◌≢◌, ◌+◌, ◌-◌, ◌*◌, ◌<◌, ◌≤◌, ◌==◌, ◌⊎◌, ℕ, zero, suc, Bool, true, false, length, Option, None, Some, inl, inr, refl, sym, ◌∙◌, ap, subst, arith}
use Rattle.std.specs.Prelude.{sum_by}
use Rattle.std.specs.List.{range_with_len}
use Rattle.std.proofs.lemmas.List.{get_or-set_same, get_or-set_other}
use Rattle.std.proofs.lemmas.List.Sums.{sum_by-cons}
use Rattle.stack_base.specs.declared.ids.Status.{Status}
use Rattle.stack_base.specs.Tree.{Tree, Leaf, Split, Mirrored}
use Rattle.layout_model.specs.declared.fragment.Fragment.{Fragment}
use Rattle.bio_records.specs.declared.bio.Bio.{Bio}
use Rattle.bio_records.specs.declared.bio.Pad.{Pad}
use Rattle.bio_records.specs.Items.{Item}
use Rattle.bio_books.specs.Books.{Node, BookState, node_at, with_node}
use Rattle.run_machine.specs.Maps.{upd}
use Rattle.run_machine.specs.Submissions.{legs_of, leg_at}
use Rattle.block_core.specs.Weights.{one_if_same}
use Rattle.block_core.proofs.status.Marks.{leg_may, Mark, decides, above}
use Rattle.block_core.proofs.moves.Sums.{upd-same, upd-other, one-same, one-other, same_or_not}
use Rattle.block_core.proofs.sound.SumParts.{unless}
use Rattle.block_core.proofs.status.RunEndings.{few_yes}

pub above_less : (written : ℕ → Status → ℕ) (mark : ℕ → ℕ → Mark) (end : Status) (less more writer write : ℕ) (parent : Option ℕ) → less ≤ more
    → above written mark end less writer write parent ≤ above written mark end more writer write parent
above_less written mark end less more writer write None le = omega (arith, le)
above_less written mark end less more writer write (Some parent) le = omega (arith, le)

pub range_none : (f : ℕ → ℕ) (n a : ℕ) → ((k : ℕ) → a ≤ k → k < a + n → f k ≡ 0) → sum_by f (range_with_len a n) ≡ 0
range_none f zero a none = refl
range_none f (suc n) a none =
    omega (
      arith,
      sum_by-cons f a (range_with_len (a + 1) n),
      none a (omega arith) (omega arith),
      range_none f n (a + 1) (λ k ge lt. none k (omega (arith, ge)) (omega (arith, lt))),
    )

-- what counts at one place alone
pub at_key : (writer w key k a b : ℕ) → ((writer ≡ w) → (key ≡ k) → a ≤ b) → one_if_same writer w * one_if_same key k * a ≤ one_if_same writer w * one_if_same key k * b
at_key writer w key k a b le = elim (same_or_not writer w) [
  | inr ne ↦ let z : one_if_same writer w ≡ 0 = one-other writer w ne in rw z (omega arith)
  | inl e ↦ elim (same_or_not key k) [
    | inr ne ↦ let z : one_if_same key k ≡ 0 = one-other key k ne in rw z (omega arith)
    | inl f ↦ let x : one_if_same writer w ≡ 1 = ap (one_if_same writer) (sym e) ∙ one-same writer in
        let y : one_if_same key k ≡ 1 = ap (one_if_same key) (sym f) ∙ one-same key in
        let h = le e f in rw (x, y) (omega (arith, h))
  ]
]

pub times_both : (x y a b : ℕ) → x * y * (a + b) ≡ x * y * a + x * y * b
times_both x y a b = grind arith

pub times_in : (x y a : ℕ) → x * (y * a) ≡ x * y * a
times_in x y a = grind arith

pub with_nothing : (x y z : ℕ) → x * (y + z * 0) ≡ x * y
with_nothing x y z = grind arith

pub not_here : (writer w key k : ℕ) → (w ≢ writer) ⊎ (k ≢ key) → one_if_same writer w * one_if_same key k ≡ 0
not_here writer w key k (inl ne) = ap (λ n. n * one_if_same key k) (one-other writer w (λ e. ne (sym e))) ∙ omega arith
not_here writer w key k (inr ne) = ap (λ n. one_if_same writer w * n) (one-other key k (λ e. ne (sym e))) ∙ omega arith

pub here_or : (writer w key k : ℕ) → ((w ≡ writer) × (k ≡ key)) ⊎ ((w ≢ writer) ⊎ (k ≢ key))
here_or writer w key k = by_two (same_or_not w writer) (same_or_not k key)
  where
    by_two : (w ≡ writer) ⊎ (w ≢ writer) → (k ≡ key) ⊎ (k ≢ key) → ((w ≡ writer) × (k ≡ key)) ⊎ ((w ≢ writer) ⊎ (k ≢ key))
    by_two (inl a) (inl b) = inl (a, b)
    by_two (inl a) (inr ne) = inr (inr ne)
    by_two (inr ne) other = inr (inl ne)

-- a place of a book
pub place_same : (f : ℕ → BookState) (writer key : ℕ) (v : Option Node) → key < length (f writer).nodes → node_at (upd f writer (with_node (f writer) key v) writer) key ≡ v
place_same f writer key v lt =
    ap (λ (b : BookState). node_at b key) (upd-same f writer (with_node (f writer) key v)) ∙ get_or-set_same (f writer).nodes key v None lt

pub place_other : (f : ℕ → BookState) (writer key : ℕ) (v : Option Node) (w k : ℕ) → (w ≢ writer) ⊎ (k ≢ key)
    → node_at (upd f writer (with_node (f writer) key v) w) k ≡ node_at (f w) k
place_other f writer key v w k (inl ne) = ap (λ (b : BookState). node_at b k) (upd-other f writer (with_node (f writer) key v) w ne)
place_other f writer key v w k (inr ne) = elim (same_or_not w writer) [
  | inr other ↦ ap (λ (b : BookState). node_at b k) (upd-other f writer (with_node (f writer) key v) w other)
  | inl e ↦
      let P : ℕ → Type 0 = λ x. node_at (upd f writer (with_node (f writer) key v) x) k ≡ node_at (f x) k in
      subst P (sym e)
      (ap (λ (b : BookState). node_at b k) (upd-same f writer (with_node (f writer) key v)) ∙ get_or-set_other (f writer).nodes key k v None ne)
]

-- behind the last leg none is left
pub left_none : (x leg legs : ℕ) (f : ℕ → ℕ) → unless (leg == legs) (x * sum_by f (range_with_len leg (legs - leg))) ≡ x * sum_by f (range_with_len leg (legs - leg))
left_none x leg legs f = by_test (leg == legs) refl
  where
    by_test : (v : Bool) → (leg == legs) ≡ v → unless v (x * sum_by f (range_with_len leg (legs - leg))) ≡ x * sum_by f (range_with_len leg (legs - leg))
    by_test true same =
        let e : leg ≡ legs = search (same, arith) in
        let none : legs - leg ≡ 0 = omega (arith, e) in
        omega (arith, ap (λ n. x * sum_by f (range_with_len leg n)) none)
    by_test false same = refl

-- a leg's bio names the node that was made for it
pub leg_named_by : (P : ℕ → ℕ → ℕ) (bio : Bio) (hand : Item Pad) (leg key : ℕ) (t : Tree) → leg < legs_of t
    → P (leg_at bio hand leg key t).bio.writer (leg_at bio hand leg key t).bio.node ≡ P bio.writer key
leg_named_by P bio hand leg key (Leaf number sectors) lt = absurd (omega (arith, lt))
leg_named_by P bio hand leg key (Split number kind sizes members) lt = absurd (omega (arith, lt))
leg_named_by P bio hand leg key (Mirrored number sizes members) lt = refl

pub leg_few : (ends : Fragment → Status) (t : Tree) (bio : Bio) (leg : ℕ) (end : Status) → leg_may ends t bio leg end ≤ 1
leg_few ends (Leaf number sectors) bio leg end = omega arith
leg_few ends (Split number kind sizes members) bio leg end = omega arith
leg_few ends (Mirrored number sizes members) bio leg end = few_yes _

pub decides_few : (master : Bool) (well : ℕ) → well ≤ 1 → decides master well ≤ 1
decides_few false well few = omega arith
decides_few true well few = few

pub times_less : (x a b : ℕ) → a ≤ b → x * a ≤ x * b
times_less x a b le =
    let e : b ≡ a + (b - a) = omega (arith, le) in
    let q : x * (a + (b - a)) ≡ x * a + x * (b - a) = grind arith in
    omega (arith, q, ap (λ n. x * n) e)

pub times_few : (x n : ℕ) → n ≤ 1 → x * n ≤ x
times_few x n few = let q : x * 1 ≡ x = omega arith in omega (arith, q, times_less x n 1 few)

pub sum_few : (f : ℕ → ℕ) (n a : ℕ) → ((k : ℕ) → f k ≤ 1) → sum_by f (range_with_len a n) ≤ n
sum_few f zero a few = omega arith
sum_few f (suc n) a few = omega (arith, sum_by-cons f a (range_with_len (a + 1) n), few a, sum_few f n (a + 1) few)
