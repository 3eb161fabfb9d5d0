-- A run is cut into its first part and the parts of the rest.
use Rattle.std.proofs.Common.{◌≡◌, ℕ, zero, suc, ◌+◌, ◌-◌, ◌<◌, ◌≤◌, min, List, [], ◌∷◌, ◌++◌, refl, sym, ap, ◌∙◌, arith}
use Rattle.std.specs.List.{flat_map}
use Rattle.stack_base.specs.declared.stack.Kind.{Kind}
use Rattle.stack_base.specs.Mapping.{slot}
use Rattle.stack_base.specs.Cutting.{piece_end}
use Rattle.stack_base.specs.Tree.{Tree, Split}
use Rattle.layout_model.specs.Plan.{Part, cuts_in, cuts, frags}
use Rattle.layout_model.proofs.Sound.{Sound, cut_of_split}

-- a run of no sectors has no parts
pub cuts_in_none : (steps : ℕ) (next : ℕ → ℕ) (offset r : ℕ) → cuts_in steps next offset r 0 ≡ []
unfolding cuts_in
cuts_in_none zero next offset r = refl
cuts_in_none (suc steps) next offset r = refl

module _ (next : ℕ → ℕ) (ahead : (r : ℕ) → r < next r) where
  -- as many steps as sectors are enough: more change nothing
  pub steps_enough : (steps other offset r len : ℕ) → len ≤ steps → len ≤ other → cuts_in steps next offset r len ≡ cuts_in other next offset r len
  unfolding cuts_in
  steps_enough steps other offset r zero enough also = cuts_in_none steps next offset r ∙ sym (cuts_in_none other next offset r)
  steps_enough zero other offset r (suc more) enough also = absurd (omega arith)
  steps_enough (suc steps) zero offset r (suc more) enough also = absurd (omega arith)
  steps_enough (suc steps) (suc other) offset r (suc more) enough also =
      let n : ℕ = min (next r - r) (suc more) in
      let first : Part = record { offset = offset; start = r; len = n } in
      ap (λ (rest : List Part). first ∷ rest)
      (steps_enough steps other (offset + n) (r + n) (suc more - n) (omega (arith, ahead r)) (omega (arith, ahead r)))

  -- a run's first part ends at the next end or with the run, and the others are those of the rest
  pub cuts_first : (offset r len : ℕ) → 0 < len
      → cuts next offset r len ≡ record { offset = offset; start = r; len = min (next r - r) len } ∷ cuts next (offset + min (next r - r) len) (r + min (next r - r) len) (len - min (next r - r) len)
  unfolding cuts cuts_in
  cuts_first offset r zero some = absurd (omega arith)
  cuts_first offset r (suc more) some =
      let n : ℕ = min (next r - r) (suc more) in
      let first : Part = record { offset = offset; start = r; len = n } in
      ap (λ (rest : List Part). first ∷ rest)
      (steps_enough more (suc more - n) (offset + n) (r + n) (suc more - n) (omega (arith, ahead r)) (omega arith))

module _ (number : ℕ) (kind : Kind) (sizes : List ℕ) (members : ℕ → Tree) where
  -- a run of no sectors has no fragments where it is cut
  pub frags_none : (write offset r : ℕ) → frags (Split number kind sizes members) write offset r 0 ≡ []
  unfolding frags cuts cuts_in
  frags_none write offset r = refl

  -- the fragments of a run that is cut: those of its first piece, and then those of the rest
  pub frags_first : Sound (Split number kind sizes members) → (write offset r len n : ℕ) → 0 < len → n ≡ min (piece_end kind sizes r - r) len
      → frags (Split number kind sizes members) write offset r len
      ≡ frags (members (slot kind sizes r).member) write offset (slot kind sizes r).at n
      ++ frags (Split number kind sizes members) write (offset + n) (r + n) (len - n)
  unfolding frags
  frags_first sound write offset r len n some is =
      rw is (ap (flat_map (λ p. frags (members (slot kind sizes p.start).member) write p.offset (slot kind sizes p.start).at p.len))
      (cuts_first (piece_end kind sizes) (cut_of_split number kind sizes members sound).ahead offset r len some))
