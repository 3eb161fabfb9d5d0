-- Each sector of a run is in a fragment of the run.
use Rattle.std.proofs.Common.{◌≡◌, ℕ, ◌+◌, ◌-◌, ◌<◌, ◌≤◌, min, List, [], ◌∷◌, refl, sym, ap, subst, inl, inr, arith}
use Rattle.std.proofs.lemmas.Bool.{cases_lt}
use Rattle.stack_base.specs.declared.stack.Kind.{Kind}
use Rattle.stack_base.specs.Mapping.{slot, head}
use Rattle.stack_base.specs.Cutting.{piece_end, IsCut}
use Rattle.stack_base.specs.Tree.{Tree, Leaf, Split, Mirrored}
use Rattle.layout_model.specs.declared.fragment.Fragment.{Fragment}
use Rattle.layout_model.specs.Way.{FitsWay}
use Rattle.layout_model.specs.Fragments.{IsIn}
use Rattle.layout_model.specs.Plan.{frags}
use Rattle.layout_model.specs.Laws.{FragmentsCover}
use Rattle.layout_model.proofs.Sound.{Sound, cut_of_split, sound_piece, sound_leg}
use Rattle.layout_model.proofs.PieceInduction.{by_pieces}
use Rattle.layout_model.proofs.Parts.{fits_here, from_piece, from_rest}
use Rattle.layout_model.proofs.PiecesGiveFragments.{from_disk, from_leg}

-- a sector with choices that lead it is in a fragment by these
InSome : Tree → ℕ → ℕ → ℕ → ℕ → List ℕ → ℕ → Type 0
InSome t write offset r len choices j = (f : Fragment) × IsIn t write offset r len choices j f

-- at a disk the run is one fragment
in_disk : (number sectors write offset r len j : ℕ) (choices : List ℕ) → j < len → FitsWay (Leaf number sectors) (r + j) choices
    → InSome (Leaf number sectors) write offset r len choices j
unfolding InSome FitsWay frags from_disk
in_disk number sectors write offset r len j choices lt fits =
    let f : Fragment = record { write = write; offset = offset; len = len; disk = record { 0 = number }; at = r } in (
      f,
      record {
        fragment = from_disk number sectors write offset r len f (omega arith) (0, omega arith, refl);
        chosen = sym fits;
        from = omega arith;
        before = omega (arith, lt);
      },
    )

-- where a run is copied, the fragment of the member that the first choice names
module _ (number : ℕ) (sizes : List ℕ) (members : ℕ → Tree) (write offset r len j : ℕ) where
  in_leg : (choices : List ℕ) → ((k : ℕ) (others : List ℕ) → FitsWay (members k) (r + j) others → InSome (members k) write offset r len others j)
      → FitsWay (Mirrored number sizes members) (r + j) choices → InSome (Mirrored number sizes members) write offset r len choices j
  unfolding InSome FitsWay from_leg
  in_leg [] below fits = absurd fits
  in_leg (k ∷ others) below fits =
      let found = below k others fits.1 in
      let is = found.1 in (
        found.0,
        record {
          fragment = from_leg number sizes members write offset r len found.0 k fits.0 is.fragment;
          chosen = ap (λ others. k ∷ others) is.chosen;
          from = is.from;
          before = is.before;
        },
      )

-- where a run is cut
module _ (number : ℕ) (kind : Kind) (sizes : List ℕ) (members : ℕ → Tree) (cut : IsCut (head kind sizes) (piece_end kind sizes) (slot kind sizes)) where
  -- a fragment of the first piece is one of the run, by the same choices
  in_piece : (write offset r len n j : ℕ) (choices : List ℕ) → n ≡ min (piece_end kind sizes r - r) len
      → InSome (members (slot kind sizes r).member) write offset (slot kind sizes r).at n choices j
      → InSome (Split number kind sizes members) write offset r len choices j
  unfolding InSome from_piece
  in_piece write offset r len n j choices is found =
      let inside = found.1 in (
        found.0,
        record {
          fragment = from_piece number kind sizes members cut write offset r len n found.0 is inside.fragment;
          chosen = inside.chosen;
          from = inside.from;
          before = inside.before;
        },
      )

  -- and so is one of the rest
  in_rest : (write offset r len n j : ℕ) (choices : List ℕ) → n ≡ min (piece_end kind sizes r - r) len → n ≤ j
      → InSome (Split number kind sizes members) write (offset + n) (r + n) (len - n) choices (j - n)
      → InSome (Split number kind sizes members) write offset r len choices j
  unfolding InSome from_rest
  in_rest write offset r len n j choices is behind found =
      let inside = found.1 in (
        found.0,
        record {
          fragment = from_rest number kind sizes members cut write offset r len n found.0 is inside.fragment;
          chosen = inside.chosen;
          from = omega (arith, inside.from);
          before = omega (arith, inside.before);
        },
      )

  -- a sector of the first piece
  in_first : (write offset r len n j : ℕ) (choices : List ℕ) → n ≡ min (piece_end kind sizes r - r) len → j < n
      → ((k at : ℕ) → FitsWay (members k) (at + j) choices → InSome (members k) write offset at n choices j)
      → FitsWay (Split number kind sizes members) (r + j) choices
      → InSome (Split number kind sizes members) write offset r len choices j
  in_first write offset r len n j choices is early below fits =
      in_piece write offset r len n j choices is
      (below (slot kind sizes r).member (slot kind sizes r).at
      (subst (λ (X : Type 0). X) (fits_here number kind sizes members cut r j choices (omega arith)) fits))

-- by the tree
covered : (t : Tree) → Sound t → (write offset r len j : ℕ) (choices : List ℕ) → j < len → FitsWay t (r + j) choices → InSome t write offset r len choices j
covered (Leaf number sectors) sound write offset r len j choices lt fits = in_disk number sectors write offset r len j choices lt fits
covered (Split number kind sizes members) sound write offset r len j choices lt fits =
    let cut = cut_of_split number kind sizes members sound in
    let below : (offset n j : ℕ) → j < n → (k at : ℕ) → FitsWay (members k) (at + j) choices → InSome (members k) write offset at n choices j =
    λ offset n j lt k at fits. covered (members k) (sound_piece number kind sizes members sound k) write offset at n j choices lt fits in
    by_pieces (piece_end kind sizes)
    (λ r len. (offset j : ℕ) → j < len → FitsWay (Split number kind sizes members) (r + j) choices → InSome (Split number kind sizes members) write offset r len choices j)
    cut.ahead
    (λ r len n is begins whole offset j lt fits.
    in_first number kind sizes members cut write offset r len n j choices is (omega arith) (below offset n j (omega arith)) fits)
    (λ r len n is begins more rest offset j lt fits. elim (cases_lt j n) [
      | inl early ↦ in_first number kind sizes members cut write offset r len n j choices is early (below offset n j early) fits
      | inr late ↦ in_rest number kind sizes members cut write offset r len n j choices is late
          (rest (offset + n) (j - n) (omega arith) (subst (λ s. FitsWay (Split number kind sizes members) s choices) (omega arith) fits))
    ])
    r len (omega arith) offset j lt fits
covered (Mirrored number sizes members) sound write offset r len j choices lt fits =
    in_leg number sizes members write offset r len j choices
    (λ k others fits. covered (members k) (sound_leg number sizes members sound k) write offset r len j others lt fits) fits

-- each sector of a run is in a fragment of it
pub fragments_cover : FragmentsCover
unfolding InSome
fragments_cover t write offset r len j choices sound lt fits = covered t sound write offset r len j choices lt fits
