use Rattle.std.proofs.Common.{length, sym, ap, subst, arith}
use Rattle.std.specs.Prelude.{List, slice_index_or}
use Rattle.stack_base.specs.declared.ids.DevId.{DevId}
use Rattle.task_steps.specs.Routed.{IsFirstCut}
use Rattle.task_steps.proofs.RouteOf.{map_has, first_none, first_there, first_some}
use Rattle.task_steps.proofs.routes.Routes.first.Goals as goal

-- the run is within what the driver goes by
pub piece-requires-clause-within : goal.piece-requires-clause-within
piece-requires-clause-within c = map_has c.args.self.now.stack c.args.bio.now c.route-route.result.now c.route-route.ensures c.requires

-- a driver that does not cut
pub returns-in_err-piece : goal.returns-in_err-piece
returns-in_err-piece c =
    rw c.from_residual.ensures (first_none c.args.self.now.stack c.args.bio.now c.route-route.result.now c.route-route.ensures c.requires c.in_err-piece.ensures)

-- one that does
pub bounds-deref-piece : goal.bounds-deref-piece
bounds-deref-piece c =
    omega (
      arith,
      ap length c.deref.ensures.0,
      first_there c.args.self.now.stack c.args.bio.now c.route-route.result.now c.route-route.ensures c.requires c.in_ok-piece.piece c.in_ok-piece.ensures,
    )

pub returns : goal.returns
returns c =
    subst (λ (items : List DevId). IsFirstCut c.args.self.now.stack c.args.bio.now
    (record { sectors = c.in_ok-piece.piece.len; dev = slice_index_or items c.in_ok-piece.piece.member (record { 0 = 0 }); start = c.in_ok-piece.piece.at }))
    (sym c.deref.ensures.0)
    (first_some c.args.self.now.stack c.args.bio.now c.route-route.result.now c.route-route.ensures c.requires c.in_ok-piece.piece c.in_ok-piece.ensures
    (record { 0 = 0 }))
