use Rattle.std.proofs.Common.{length, ap, arith}
use Rattle.std.proofs.lemmas.Option.{slice_get-get_or}
use Rattle.layout_model.proofs.FirstRuns.{member_there, first_run_is}
use Rattle.layout_model.proofs.piece.first_piece.Goals as goal

-- the piece lies in a member
pub bounds-deref-piece : goal.bounds-deref-piece
bounds-deref-piece c =
    omega (
      arith,
      ap length c.deref.ensures.0,
      member_there c.args.stack.now c.requires.stack c.args.dev.0 c.args.device.now c.requires.found c.requires.cuts
          c.args.start c.args.len c.kind_piece-piece.result c.kind_piece-piece.ensures c.requires.within,
    )

-- and is a run of it
pub returns : goal.returns
returns c =
    let there = member_there c.args.stack.now c.requires.stack c.args.dev.0 c.args.device.now c.requires.found c.requires.cuts
    c.args.start c.args.len c.kind_piece-piece.result c.kind_piece-piece.ensures c.requires.within in
    rw c.deref.ensures.0 (
    first_run_is c.args.stack.now c.requires.stack c.args.dev.0 c.args.device.now c.requires.found c.requires.cuts
    c.args.start c.args.len c.kind_piece-piece.result c.kind_piece-piece.ensures c.requires.within _
    (slice_get-get_or c.args.device.now.members.items c.kind_piece-piece.result.member (record { 0 = 0 }) there)
    )
