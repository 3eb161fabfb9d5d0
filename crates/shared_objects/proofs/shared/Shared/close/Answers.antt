use Rattle.std.proofs.Common.{length, sym, ◌∙◌, ap, subst}
use Rattle.std.specs.Option.{is_some}
use Rattle.shared_objects.specs.Joining.{ArePutAway}
use Rattle.shared_objects.proofs.leaving.CloseShows.{are_here, can_end, has_closed}
use Rattle.shared_objects.proofs.tickets.CloseTickets.{shows_its_tickets}
use Rattle.shared_objects.proofs.shared.Shared.close.Goals as goal

pub join_tasks-requires-clause-here : goal.join_tasks-requires-clause-here
join_tasks-requires-clause-here c = are_here c.args.self c.requires.holds c.requires.over

pub close_locks-requires-clause-whole : goal.close_locks-requires-clause-whole
close_locks-requires-clause-whole c = can_end c.args.self.locks c.args.self.tasks.items c.join_tasks.new.firsts c.join_tasks.new.closed.items c.join_tasks.new.trace c.join_tasks.ensures

pub returns-clause-closed : goal.returns-clause-closed
returns-clause-closed c =
    let beside = c.close_locks.ensures.beside in
    has_closed c.args.self c.join_tasks.new.firsts c.close_locks.result c.requires.holds c.requires.over
    (subst (λ tasks. ArePutAway (length c.args.self.tasks.items) c.args.self.locks c.args.self.tasks.items c.join_tasks.new.firsts tasks c.close_locks.result.trace) (sym beside.tasks)
    (subst (ArePutAway (length c.args.self.tasks.items) c.args.self.locks c.args.self.tasks.items c.join_tasks.new.firsts c.join_tasks.new.closed.items) (sym beside.trace) c.join_tasks.ensures))
    c.close_locks.ensures.shut beside.pass beside.told_is beside.room_is

pub returns-clause-trace : goal.returns-clause-trace
returns-clause-trace c = ap is_some c.close_locks.ensures.beside.trace ∙ c.join_tasks.ensures.traced

pub returns-clause-tickets : goal.returns-clause-tickets
returns-clause-tickets c = shows_its_tickets c.close_locks.result (returns-clause-closed c)
