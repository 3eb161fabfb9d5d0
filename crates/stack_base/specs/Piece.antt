-- What the first piece of a run is.
use Rattle.std.specs.Prelude.{◌≡◌, ◌↔◌, ◌+◌, ◌<◌, ◌≤◌, ℕ, List}
use Rattle.stack_base.specs.declared.stack.Kind.{Kind}
use Rattle.stack_base.specs.declared.mapping.Piece.{Piece}
use Rattle.stack_base.specs.Mapping.{slot, head}

-- exactly the sectors of the run before its next head, at the place of its first sector
pub record IsPiece (kind : Kind) (sizes : List ℕ) (start len : ℕ) (piece : Piece) : Type 0 where
  pub some : 1 ≤ piece.len
  pub within : piece.len ≤ len
  pub exact : (s : ℕ) → start ≤ s → s < start + len → (head kind sizes start s ≡ start) ↔ (s < start + piece.len)
  pub place : slot kind sizes start ≡ record { member = piece.member; at = piece.at }
