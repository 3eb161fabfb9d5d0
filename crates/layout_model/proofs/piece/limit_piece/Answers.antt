use Rattle.std.proofs.Common.{refl, arith}
use Rattle.stack_base.proofs.KindPieces.{limit_piece_is}
use Rattle.layout_model.proofs.piece.limit_piece.Goals as goal
use Rattle.layout_model.proofs.piece.limit_piece.Goals.{then-chunk-eq0, else-chunk-eq0}

pub returns : goal.returns
returns c = λ sizes.
    limit_piece_is c.args.max c.args.chunk c.args.start c.args.len c.if-chunk-eq0.longest sizes _ c.requires.max c.requires.some
    (λ none. elim c.if-chunk-eq0.branch [ then-chunk-eq0 w ↦ omega arith | else-chunk-eq0 w ↦ absurd (omega arith) ])
    (λ pos. elim c.if-chunk-eq0.branch [ then-chunk-eq0 w ↦ absurd (omega arith) | else-chunk-eq0 w ↦ omega (arith, w.min-longest.ensures) ])
    c.min.ensures refl refl
