use Rattle.std.proofs.Common.{◌∷◌, [], refl, subst, arith}
use Rattle.stack_base.specs.declared.stack.Kind.TheVariants.{Limit}
use Rattle.stack_base.specs.declared.mapping.Piece.{Piece}
use Rattle.stack_base.specs.Piece.{IsPiece}
use Rattle.stack_base.proofs.KindPieces.{limit_piece_is}
use Rattle.limit_split.specs.Numbers.{LimitNumbers}
use Rattle.limit_split.proofs.LimitMapLaw.piece.Goals as goal
use Rattle.limit_split.proofs.LimitMapLaw.piece.Goals.{then-self-eq0, else-self-eq0}

pub returns : goal.returns
returns c =
    let kept = c.self.inside in
    let piece : Piece = record { len = c.min.result; member = 0; at = c.args.start } in
    subst (λ (v : LimitNumbers). IsPiece (Limit v.longest v.chunk) (v.sectors ∷ []) c.args.start c.args.len piece) c.self.view_is
    (limit_piece_is kept.max kept.chunk c.args.start c.args.len c.if-self-eq0.longest (kept.size ∷ []) piece c.self.invariant.shape.0 c.requires.some
    (λ none. elim c.if-self-eq0.branch [ then-self-eq0 w ↦ omega arith | else-self-eq0 w ↦ absurd (omega arith) ])
    (λ pos. elim c.if-self-eq0.branch [ then-self-eq0 w ↦ absurd (omega arith) | else-self-eq0 w ↦ omega (arith, w.min-longest.ensures) ])
    c.min.ensures refl refl)
