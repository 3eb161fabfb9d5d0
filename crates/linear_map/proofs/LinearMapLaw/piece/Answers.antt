use Rattle.std.proofs.Common.{◌≡◌, ◌∙◌}
use Rattle.stack_base.proofs.KindPieces.{linear_piece_is}
use Rattle.linear_map.proofs.LinearMapLaw.piece.Goals as goal

-- the loop goes over the sizes that the device is seen as
pub returns-then-at-size : goal.returns-then-at-size
returns-then-at-size c =
    let same : c.deref-size-items.result.now ≡ c.args.self.now = c.deref-size-items.ensures.0 ∙ c.self.view_is in
    linear_piece_is c.args.self.now c.args.start c.args.len _ c.requires.some
    (rw same at c.loop-member-test.true) (rw same at c.if-at-size.true) c.loop-member.invariant (rw same at c.min.ensures)
