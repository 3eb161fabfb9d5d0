use Rattle.std.proofs.Common.{sym, subst, rules}
use Rattle.run_machine.specs.Requests.{TakeVec}
use Rattle.task_steps.specs.Stage.{Owes}
use Rattle.task_steps.specs.Views.{took_vec}
use Rattle.object_things.specs.Stamps.{or_unmade}
use Rattle.shared_objects.specs.Holding.{stage_at}
use Rattle.shared_objects.proofs.asking.PoolReplies.{vec_owed}
use Rattle.shared_objects.proofs.caller.objects.CallerObjects.take_vec.Goals as goal

pub returns-clause-owed : goal.returns-clause-owed
returns-clause-owed g c =
    subst (λ said. Owes (stage_at c.args.self.now.locks.now) TakeVec (took_vec said)) (sym c.or_unmade.ensures)
    (vec_owed (stage_at c.args.self.now.locks.now) c.requires.holds.locked.opened.numbered (or_unmade c.in-Took.result) c.in-Took.ensures.says.1)
