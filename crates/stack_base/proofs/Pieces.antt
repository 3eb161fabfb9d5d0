-- The first piece of a run, by its end.
use Rattle.std.proofs.Common.{◌≡◌, ℕ, ◌-◌, ◌≤◌, List}
use Rattle.std.specs.Prelude.{min}
use Rattle.stack_base.specs.declared.stack.Kind.{Kind}
use Rattle.stack_base.specs.declared.mapping.Piece.{Piece}
use Rattle.stack_base.specs.Mapping.{slot, head}
use Rattle.stack_base.specs.Cutting.{piece_end, IsCut}
use Rattle.stack_base.specs.Piece.{IsPiece}
use Rattle.stack_base.proofs.Heads.{piece_exact, piece_only}

-- what ends where the first piece ends, or with the run, and lies where its first sector does, is the first piece
pub is_piece :
    (kind : Kind) (sizes : List ℕ) (start len : ℕ) (piece : Piece)
    → IsCut (head kind sizes) (piece_end kind sizes) (slot kind sizes)
    → 1 ≤ len
    → piece.len ≡ min (piece_end kind sizes start - start) len
    → slot kind sizes start ≡ record { member = piece.member; at = piece.at }
    → IsPiece kind sizes start len piece
is_piece kind sizes start len piece cut some ends lies =
    let parts = piece_exact (head kind sizes) (piece_end kind sizes) (slot kind sizes) cut start len piece.len ends some in
    record { some = parts.0; within = parts.1; exact = parts.2; place = lies }

-- the first piece ends there
pub piece_len :
    (kind : Kind) (sizes : List ℕ) (start len : ℕ) (piece : Piece)
    → IsCut (head kind sizes) (piece_end kind sizes) (slot kind sizes)
    → IsPiece kind sizes start len piece
    → piece.len ≡ min (piece_end kind sizes start - start) len
piece_len kind sizes start len piece cut is =
    piece_only (head kind sizes) (piece_end kind sizes) (slot kind sizes) cut start len piece.len is.some is.within is.exact
