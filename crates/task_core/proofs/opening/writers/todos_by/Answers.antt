use Rattle.std.proofs.Common.{arith}
use Rattle.task_core.proofs.opened.WritesSharedOut.{share_more, share_whole}
use Rattle.task_core.proofs.opening.writers.todos_by.Goals as goal

pub sharing-preserved : goal.sharing-preserved
sharing-preserved c =
    let test = c.sharing-test.true in
    let len = c.len-number-end.ensures in
    share_more c.args.work.now.rounds.items c.args.work.now.writes.items c.args.writer c.sharing.number c.index.result.now c.index-in-sharing.result.now
    c.sharing.todos.items c.keep.new.todos.items c.requires.paired (omega (arith, test, len)) c.index.ensures c.index-in-sharing.ensures c.sharing.invariant
    c.in_ok-keep.ensures

pub returns : goal.returns
returns c =
    let test = c.sharing-test.false in
    let len = c.len-number-end.ensures in
    share_whole c.args.work.now.rounds.items c.args.work.now.writes.items c.args.writer c.sharing.number c.sharing.todos.items c.requires.paired
    (omega (arith, test, len)) c.sharing.invariant
