use Rattle.std.proofs.Common.{◌∙◌}
use Rattle.plain_core.proofs.opening_lemmas.SlotsRise.{first_at, one_seen, enter_ready, enter_small, state_at}
use Rattle.plain_core.proofs.opening.seen_tasks.tasks_seen.Goals as goal

pub task_seen-requires : goal.task_seen-requires
task_seen-requires c = first_at c.args.tasks.now c.seeing.i c.index-tasks-i.result c.seeing-test.true c.index-tasks-i.is c.requires.first

pub enter-requires-clause-small : goal.enter-requires-clause-small
enter-requires-clause-small c =
    let tasks = c.args.tasks.now in
    let at = state_at tasks c.seeing.i c.index-tasks-i.result c.seeing-test.true c.index-tasks-i.is in
    enter_small tasks c.seeing.i c.seeing.seen.items c.seeing.places.items c.seeing.invariant c.seeing-test.true _ (c.in_ok-task.ensures ∙ at)

pub enter-requires-clause-entered : goal.enter-requires-clause-entered
enter-requires-clause-entered c =
    let tasks = c.args.tasks.now in
    let at = state_at tasks c.seeing.i c.index-tasks-i.result c.seeing-test.true c.index-tasks-i.is in
    enter_ready tasks c.seeing.i c.seeing.seen.items c.seeing.places.items c.seeing.invariant c.seeing-test.true _ (c.in_ok-task.ensures ∙ at)

pub seeing-preserved : goal.seeing-preserved
seeing-preserved c =
    let tasks = c.args.tasks.now in
    let at = state_at tasks c.seeing.i c.index-tasks-i.result c.seeing-test.true c.index-tasks-i.is in
    one_seen tasks c.seeing.i c.seeing.seen.items c.seeing.places.items c.seeing.invariant c.seeing-test.true _ (c.in_ok-task.ensures ∙ at)
    c.enter.new.tasks.items c.enter.new.places.items c.in_ok-enter.ensures
