use Rattle.std.proofs.Common.{◌+◌, ◌*◌, ◌/◌, ◌%◌, replicate, sym, ap, ◌∙◌, subst}
use Rattle.std.proofs.lemmas.List.{length-replicate}
use Rattle.stack_base.specs.declared.stack.Kind.TheVariants.{Stripe}
use Rattle.stack_base.specs.declared.mapping.Piece.{Piece}
use Rattle.stack_base.specs.Piece.{IsPiece}
use Rattle.stack_base.proofs.KindPieces.{stripe_piece_is}
use Rattle.stripe_map.specs.Numbers.{Numbers}
use Rattle.stripe_map.proofs.StripeMapLaw.piece.Goals as goal

pub returns : goal.returns
returns c =
    let kept = c.self.inside in
    let count = c.from-members.ensures ∙ sym (length-replicate kept.members kept.smallest) in
    let members = c.from-members.result in
    let at = c.args.start / kept.chunk / members * kept.chunk + c.args.start % kept.chunk in
    let piece : Piece = record { len = c.min.result; member = c.args.start / kept.chunk % members; at = at } in
    subst (λ (v : Numbers). IsPiece (Stripe v.chunk) (replicate v.members v.smallest) c.args.start c.args.len piece) c.self.view_is
    (stripe_piece_is kept.chunk c.args.start c.args.len (replicate kept.members kept.smallest) piece c.self.invariant.shape.0 c.requires.some c.min.ensures
    (ap (λ n. c.args.start / kept.chunk % n) count)
    (ap (λ n. c.args.start / kept.chunk / n * kept.chunk + c.args.start % kept.chunk) count))
