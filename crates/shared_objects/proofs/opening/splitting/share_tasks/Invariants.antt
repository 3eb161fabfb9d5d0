use Rattle.shared_objects.specs.Opening.{AreFirst}
use Rattle.shared_objects.proofs.sharing.TaskRows.{Standing}
use Rattle.shared_objects.proofs.opening.splitting.share_tasks.Given as goal

abbrev pub invariant-sharing : goal.invariant-sharing
invariant-sharing l = Standing l.locks l.fn.tasks.items l.task-iterator.rest.items l.slots.items l.number × AreFirst l.number l.locks l.firsts
