use Rattle.std.proofs.Common.{rules}
use Rattle.shared_objects.proofs.sharing.NewDesks.{desk_holds, new_desk, other_pass, task_is}
use Rattle.shared_objects.proofs.opening.splitting.share_task.Goals as goal

pub new-requires-clause-desk : goal.new-requires-clause-desk
new-requires-clause-desk c = desk_holds c.args.number c.args.locks.now c.in_ok-seats.seats c.in_ok-seats.ensures.new_ones c.requires.locks

pub new-requires-clause-pass : goal.new-requires-clause-pass
new-requires-clause-pass c = other_pass c.args.number c.args.locks.now c.in_ok-seats.seats c.in_ok-seats.ensures.new_ones

pub new-requires-clause-unused : goal.new-requires-clause-unused
new-requires-clause-unused c = new_desk c.args.number c.args.locks.now c.in_ok-seats.seats c.in_ok-seats.ensures.new_ones

pub returns-clause-ran : goal.returns-clause-ran
returns-clause-ran c = task_is c.args.number c.args.locks.now c.in_ok-seats.seats c.in_ok-seats.ensures.new_ones c.args.task c.new.result c.new.ensures.made c.new.ensures.blank
