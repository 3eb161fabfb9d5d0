use Rattle.std.proofs.Common.{◌≡◌, get_or, map, sum, ap, sym, ◌∙◌, arith}
use Rattle.std.proofs.lemmas.List.{get_or-map, length-map, take-map}
use Rattle.stack_base.specs.declared.ids.DevId.{DevId}
use Rattle.stack_base.specs.Tree.{size, tree}
use Rattle.stack_base.proofs.KindPieces.{linear_piece_is}
use Rattle.layout_model.proofs.piece.linear_piece.Goals as goal

pub returns-then-at-size : goal.returns-then-at-size
returns-then-at-size c =
    let size_at = λ (m : DevId). size (tree c.args.stack.now m.0) in
    let members = c.args.members.now in
    let place = c.loop-place.place in
    let here : get_or (map size_at members) place 0 ≡ c.size-size.result =
    get_or-map size_at members place (record { 0 = 0 }) 0 c.loop-place-test.true ∙ sym c.size-size.ensures in
    linear_piece_is (map size_at members) c.args.start c.args.len _ c.requires.some
    (omega (arith, length-map members size_at, c.loop-place-test.true))
    (omega (arith, here, c.if-at-size.true))
    (omega (arith, c.loop-place.invariant, ap sum (take-map size_at place members)))
    (omega (arith, here, c.min.ensures))
