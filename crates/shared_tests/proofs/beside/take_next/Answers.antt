use Rattle.shared_tests.proofs.Taken.{of_these, same_locks}
use Rattle.shared_tests.proofs.beside.take_next.Goals as goal

pub returns-clause-same : goal.returns-clause-same
returns-clause-same c = same_locks c.args.shared.now c.take_task.new.self c.take_task.result c.take_task.ensures.task c.take_task.ensures.same

pub returns-clause-home : goal.returns-clause-home
returns-clause-home c = of_these c.args.shared.now c.take_task.new.self c.take_task.result c.take_task.ensures.task
