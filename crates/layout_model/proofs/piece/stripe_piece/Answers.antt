use Rattle.std.proofs.Common.{◌+◌, ◌*◌, ◌/◌, ◌%◌, sym, ap}
use Rattle.stack_base.proofs.KindPieces.{stripe_piece_is}
use Rattle.layout_model.proofs.piece.stripe_piece.Goals as goal

pub returns : goal.returns
returns c = λ sizes count.
    stripe_piece_is c.args.chunk c.args.start c.args.len sizes _ c.requires.chunk c.requires.some c.min.ensures
    (ap (λ n. c.args.start / c.args.chunk % n) (sym count))
    (ap (λ n. c.args.start / c.args.chunk / n * c.args.chunk + c.args.start % c.args.chunk) (sym count))
