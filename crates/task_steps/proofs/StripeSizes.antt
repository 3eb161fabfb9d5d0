-- A stripe goes by how many members it has and by the smallest of them.
use Rattle.std.proofs.Common.{ℕ, List, length, replicate, sym, ◌∙◌}
use Rattle.stack_base.specs.declared.mapping.Piece.{Piece}
use Rattle.stack_base.specs.declared.stack.Kind.TheVariants.{Stripe}
use Rattle.stack_base.specs.Mapping.{smallest}
use Rattle.stack_base.specs.Piece.{IsPiece}
use Rattle.stack_base.proofs.EvenMembers.{stripes_go_by_smallest}

-- so the first pieces of its runs are those over equal members
pub piece_of_equal : (chunk : ℕ) (sizes : List ℕ) (start len : ℕ) (piece : Piece)
    → IsPiece (Stripe chunk) (replicate (length sizes) (smallest sizes)) start len piece → IsPiece (Stripe chunk) sizes start len piece
piece_of_equal chunk sizes start len piece is = record {
  some = is.some;
  within = is.within;
  exact = λ s le lt. let same = stripes_go_by_smallest.heads chunk sizes start s in let e = is.exact s le lt in (λ h. e.0 (sym same ∙ h), λ h. same ∙ e.1 h);
  place = stripes_go_by_smallest.slots chunk sizes start ∙ is.place;
}
