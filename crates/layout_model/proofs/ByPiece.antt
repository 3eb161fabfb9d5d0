-- What a run needs at a device that cuts, how many fragments it has and where it goes, by the piece that the device gives.
use Rattle.std.proofs.Common.{◌≡◌, ℕ, ◌+◌, ◌-◌, ◌<◌, List, sym, ap, ◌∙◌, subst, inl, inr, arith}
use Rattle.std.proofs.lemmas.Bool.{cases_lt}
use Rattle.stack_base.specs.declared.mapping.Piece.{Piece}
use Rattle.stack_base.specs.declared.stack.Kind.{Kind}
use Rattle.stack_base.specs.Mapping.{Slot, slot, head}
use Rattle.stack_base.specs.Cutting.{piece_end, IsCut}
use Rattle.stack_base.specs.Piece.{IsPiece}
use Rattle.stack_base.specs.Tree.{Tree, Split}
use Rattle.stack_base.proofs.Pieces.{piece_len}
use Rattle.layout_model.specs.Way.{FitsWay, place}
use Rattle.layout_model.specs.Need.{needed, fragments_in_run}
use Rattle.layout_model.specs.Shown.{shown_sector}
use Rattle.layout_model.proofs.CountSteps.{fragments_none}
use Rattle.layout_model.proofs.NeedsByPieces.{needed_piece, needed_more, fragments_of_piece, fragments_of_more}

module _ (number : ℕ) (kind : Kind) (sizes : List ℕ) (members : ℕ → Tree) (cut : IsCut (head kind sizes) (piece_end kind sizes) (slot kind sizes))
    (start len : ℕ) (piece : Piece) (is : IsPiece kind sizes start len piece) where
  -- a run that is one piece needs what the piece needs
  pub needed_alone : piece.len ≡ len → needed (Split number kind sizes members) start len ≡ needed (members piece.member) piece.at piece.len
  needed_alone whole =
      needed_piece number kind sizes members start len piece.len cut (piece_len kind sizes start len piece cut is) whole
      ∙ ap (λ (to : Slot). needed (members to.member) to.at len) is.place
      ∙ ap (needed (members piece.member) piece.at) (sym whole)

  -- a run with more pieces needs what its first needs, a bio for it, and what the rest needs
  pub needed_and_more : piece.len < len
      → needed (Split number kind sizes members) start len
      ≡ needed (members piece.member) piece.at piece.len + (1 + needed (Split number kind sizes members) (start + piece.len) (len - piece.len))
  needed_and_more more =
      needed_more number kind sizes members start len piece.len cut (piece_len kind sizes start len piece cut is) more
      ∙ ap (λ (to : Slot). needed (members to.member) to.at piece.len + (1 + needed (Split number kind sizes members) (start + piece.len) (len - piece.len))) is.place

  -- the fragments of a run are those of its first piece and those of the rest
  pub fragments_of_both :
      fragments_in_run (Split number kind sizes members) start len
      ≡ fragments_in_run (members piece.member) piece.at piece.len + fragments_in_run (Split number kind sizes members) (start + piece.len) (len - piece.len)
  fragments_of_both =
      let split : Tree = Split number kind sizes members in
      let ends = piece_len kind sizes start len piece cut is in
      elim (cases_lt piece.len len) [
        | inl more ↦
            fragments_of_more number kind sizes members start len piece.len cut ends more
            ∙ ap (λ (to : Slot). fragments_in_run (members to.member) to.at piece.len + fragments_in_run split (start + piece.len) (len - piece.len)) is.place
        | inr ge ↦
            let whole : piece.len ≡ len = omega (arith, is.within) in
            let none = fragments_none split (start + piece.len) (len - piece.len) (omega arith) in
            let all : fragments_in_run split start len ≡ fragments_in_run (members piece.member) piece.at piece.len =
            fragments_of_piece number kind sizes members start len piece.len cut ends whole
            ∙ ap (λ (to : Slot). fragments_in_run (members to.member) to.at len) is.place
            ∙ ap (fragments_in_run (members piece.member) piece.at) (sym whole) in
            omega arith
      ]

  -- the way of the first sector goes on at the piece's first sector
  pub place_of_piece : (choices : List ℕ) → place (Split number kind sizes members) start choices ≡ place (members piece.member) piece.at choices
  unfolding place
  place_of_piece choices = ap (λ (to : Slot). place (members to.member) to.at choices) is.place

  -- each sector of the piece shows what its own sector there shows
  pub shown_of_piece : (i : ℕ) → i < piece.len → shown_sector (Split number kind sizes members) (start + i) ≡ shown_sector (members piece.member) (piece.at + i)
  unfolding shown_sector
  shown_of_piece i lt =
      let ends = piece_len kind sizes start len piece cut is in
      let along = cut.along start (start + i) (omega arith) (omega (arith, lt, ends)) in
      ap (λ (to : Slot). shown_sector (members to.member) to.at)
      (along
      ∙ ap (λ (to : Slot). record { member = to.member; at = to.at + (start + i - start) }) is.place
      ∙ ap (λ n. record { member = piece.member; at = piece.at + n }) (omega arith))

  -- by the same choices
  pub fits_of_piece : (choices : List ℕ) → FitsWay (Split number kind sizes members) start choices → FitsWay (members piece.member) piece.at choices
  unfolding FitsWay
  fits_of_piece choices fits = subst (λ (to : Slot). FitsWay (members to.member) to.at choices) is.place fits
