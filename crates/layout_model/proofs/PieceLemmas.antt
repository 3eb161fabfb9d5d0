-- The first piece of a run lies within one member.
use Rattle.std.proofs.Common.{◌≡◌, ℕ, ◌+◌, ◌-◌, ◌<◌, ◌≤◌, min, List, length, get_or, ap, ◌∙◌, subst, arith}
use Rattle.stack_base.specs.declared.mapping.Piece.{Piece}
use Rattle.stack_base.specs.declared.stack.Kind.{Kind}
use Rattle.stack_base.specs.Mapping.{Slot, slot, size_of}
use Rattle.stack_base.specs.Cutting.{CanCut, piece_end}
use Rattle.stack_base.specs.Piece.{IsPiece}
use Rattle.stack_base.specs.Stack.{HasShape}
use Rattle.stack_base.proofs.KindCuts.{kind_cuts}
use Rattle.stack_base.proofs.Pieces.{piece_len}
use Rattle.stack_base.proofs.Inside.{IsInside, kind_inside}

-- the first piece of a run within a device lies within its member
pub piece_inside :
    (kind : Kind) (sizes : List ℕ) (start len : ℕ) (piece : Piece) → CanCut kind → HasShape kind (length sizes)
    → start + len ≤ size_of kind sizes → IsPiece kind sizes start len piece
    → (piece.member < length sizes) × (piece.at + piece.len ≤ get_or sizes piece.member 0)
piece_inside kind sizes start len piece can shape within is =
    let cut = kind_cuts kind sizes can in
    let ends : piece.len ≡ min (piece_end kind sizes start - start) len = piece_len kind sizes start len piece cut is in
    let some : 1 ≤ piece.len = is.some in
    let last : ℕ = start + (piece.len - 1) in
    let there : slot kind sizes last ≡ record { member = piece.member; at = piece.at + (last - start) } =
    cut.along start last (omega arith) (omega arith) ∙ ap (λ (to : Slot). record { member = to.member; at = to.at + (last - start) }) is.place in
    let inside : IsInside sizes (record { member = piece.member; at = piece.at + (last - start) }) =
    subst (IsInside sizes) there (kind_inside kind sizes last can shape (omega arith)) in
    (inside.0, omega (arith, inside.1))
