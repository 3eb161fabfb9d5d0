-- Marks at the places of books: where no node is open, another mark does not matter to what refers to marks.
use Rattle.std.proofs.Common.{◌≡◌, ◌≢◌, ◌*◌, ◌≤◌, ◌⊎◌, ℕ, zero, suc, List, None, Some, inl, inr, refl, sym, ◌∙◌, ap, subst, arith}
use Rattle.bio_records.specs.declared.bio.Bio.{Bio}
use Rattle.bio_records.specs.declared.bio.Pad.{Pad}
use Rattle.bio_records.specs.Items.{Item}
use Rattle.bio_books.specs.Books.{Node, VectorItem, SlipItem, node_at, parent_of}
use Rattle.bio_books.specs.Links.{IsVacant}
use Rattle.bio_books.specs.Drops.{Closed}
use Rattle.run_machine.specs.Maps.{upd}
use Rattle.run_machine.specs.Scene.{Scene}
use Rattle.run_machine.specs.Tasks.{Todo, Gathered}
use Rattle.run_machine.specs.Runs.{State}
use Rattle.block_core.specs.Weights.{Weight, Spot, total_weight, one_if_same, names_node, under, legs_left}
use Rattle.block_core.proofs.moves.References.{references, awaited_ends}
use Rattle.block_core.proofs.moves.Sums.{upd-same, upd-other, one-same, same_or_not}
use Rattle.block_core.proofs.sound.Invariant.{Invariant}
use Rattle.block_core.proofs.moves.Deltas.{vacant_at}
use Rattle.block_core.proofs.moves.SumsCompared.{under_in_all}

-- marks with another one at one place
abbrev pub with_mark : {X : Type 0} → (ℕ → ℕ → X) → ℕ → ℕ → X → ℕ → ℕ → X
with_mark mark writer key n = upd mark writer (upd (mark writer) key n)

pub mark_here : {X : Type 0} (mark : ℕ → ℕ → X) (writer key : ℕ) (n : X) → with_mark mark writer key n writer key ≡ n
mark_here mark writer key n = ap (λ f. f key) (upd-same mark writer (upd (mark writer) key n)) ∙ upd-same (mark writer) key n

pub mark_other : {X : Type 0} (mark : ℕ → ℕ → X) (writer key : ℕ) (n : X) (v k : ℕ) → (v ≢ writer) ⊎ (k ≢ key) → with_mark mark writer key n v k ≡ mark v k
mark_other mark writer key n v k (inl ne) = ap (λ f. f k) (upd-other mark writer (upd (mark writer) key n) v ne)
mark_other {X = X} mark writer key n v k (inr ne) = by_writer (same_or_not v writer)
  where
    by_writer : (v ≡ writer) ⊎ (v ≢ writer) → with_mark mark writer key n v k ≡ mark v k
    by_writer (inl e) =
        let P : ℕ → Type 0 = λ x. with_mark mark writer key n x k ≡ mark x k in
        subst P (sym e) (ap (λ f. f k) (upd-same mark writer (upd (mark writer) key n)) ∙ upd-other (mark writer) key n k ne)
    by_writer (inr other) = ap (λ f. f k) (upd-other mark writer (upd (mark writer) key n) v other)

-- what refers to another place than this
pub not_both : (v writer k key : ℕ) → one_if_same v writer * one_if_same k key ≡ 0 → (v ≢ writer) ⊎ (k ≢ key)
not_both v writer k key none = by_two (same_or_not v writer) (same_or_not k key)
  where
    by_two : (v ≡ writer) ⊎ (v ≢ writer) → (k ≡ key) ⊎ (k ≢ key) → (v ≢ writer) ⊎ (k ≢ key)
    by_two (inr ne) other = inl ne
    by_two (inl same) (inr ne) = inr ne
    by_two (inl same) (inl also) =
        let a : one_if_same v writer ≡ 1 = ap (one_if_same v) (sym same) ∙ one-same v in
        let b : one_if_same k key ≡ 1 = ap (one_if_same k) (sym also) ∙ one-same k in
        let c : 1 * 1 ≡ 0 = sym (rw (a, b) refl) ∙ none in
        absurd (omega (arith, c))

pub mark_still : {X : Type 0} (mark : ℕ → ℕ → X) (writer key : ℕ) (n : X) (v k : ℕ) → one_if_same v writer * one_if_same k key ≡ 0 → with_mark mark writer key n v k ≡ mark v k
mark_still mark writer key n v k none = mark_other mark writer key n v k (not_both v writer k key none)

pub no_factor : (x m : ℕ) → 1 ≤ m → x * m ≡ 0 → x ≡ 0
no_factor zero m le h = refl
no_factor (suc x) zero le h = absurd (omega (arith, le))
no_factor (suc x) (suc m) le h = absurd (grind (arith, h))

-- a weight that is no more than another one, for all that does not refer to this place
pub record IsUnmoved (u v : Weight) (writer key : ℕ) : Type 0 where
  pub todo : (n : ℕ) (todos : List Todo) (taken : Gathered) → u.todo n todos taken ≤ v.todo n todos taken
  pub bio : (spot : Spot) (item : Item Pad) → names_node writer key item ≡ 0 → u.bio spot item ≤ v.bio spot item
  pub copy : (bio : Bio) (master leg : ℕ) → one_if_same bio.writer writer * one_if_same master key ≡ 0 → u.copy bio master leg ≤ v.copy bio master leg
  pub hand : (item : Item Pad) → u.hand item ≤ v.hand item
  pub vector : (vector : VectorItem) → u.vector vector ≤ v.vector vector
  pub slip : (slip : SlipItem) → u.slip slip ≤ v.slip slip
  pub node : (w k : ℕ) (node : Node) → (w ≢ writer) ⊎ (k ≢ key) → under writer key w (parent_of node.role) ≡ 0 → u.node w k node ≤ v.node w k node
  pub closed : (task w : ℕ) (closed : Closed) → under writer key w closed.parent ≡ 0 → u.closed task w closed ≤ v.closed task w closed

module _ (scene : Scene) (s : State) (i : Invariant scene s) (writer key : ℕ) (vacant : IsVacant (s.objects.book writer) key) where
  -- nothing refers to a vacant place
  pub no_ref : total_weight scene (references scene.setup writer key) s ≡ 0
  no_ref = sym (i.counts writer key) ∙ ap awaited_ends (vacant_at (s.objects.book writer) key vacant).0

  -- an open node stands elsewhere
  pub elsewhere : (v k : ℕ) (node : Node) → node_at (s.objects.book v) k ≡ Some node → (v ≢ writer) ⊎ (k ≢ key)
  elsewhere v k node at = by_two (same_or_not v writer) (same_or_not k key)
    where
      by_two : (v ≡ writer) ⊎ (v ≢ writer) → (k ≡ key) ⊎ (k ≢ key) → (v ≢ writer) ⊎ (k ≢ key)
      by_two (inr ne) other = inl ne
      by_two (inl same) (inr ne) = inr ne
      by_two (inl same) (inl also) =
          let e : node_at (s.objects.book writer) key ≡ Some node = subst (λ q. node_at (s.objects.book writer) q ≡ Some node) also (subst (λ q. node_at (s.objects.book q) k ≡ Some node) same at) in
          let y : None ≡ Some node = sym (vacant_at (s.objects.book writer) key vacant).0 ∙ e in absurd cc

  pub none_moves : (u v : Weight) → IsUnmoved u v writer key → total_weight scene u s ≤ total_weight scene v s
  none_moves u v same =
      let r : Weight = references scene.setup writer key in
      under_in_all scene s i u v (record {
        todo = λ n todos taken part. same.todo n todos taken;
        bio = λ spot item part. same.bio spot item (omega (arith, no_ref, part r));
        copy = λ bio master leg left part.
            same.copy bio master leg (no_factor (one_if_same bio.writer writer * one_if_same master key) (legs_left scene.setup bio leg) (omega (arith, left)) (omega (arith, no_ref, part r)));
        hand = same.hand;
        vector = same.vector;
        slip = same.slip;
        node = λ w k node at part. same.node w k node (elsewhere w k node at) (omega (arith, no_ref, part r));
        closed = λ task w closed part. same.closed task w closed (omega (arith, no_ref, part r));
      })
