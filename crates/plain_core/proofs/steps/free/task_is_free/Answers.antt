use Rattle.task_steps.specs.Routed.{routing_setup}
use Rattle.run_machine.specs.Tasks.{request}
use Rattle.plain_core.specs.steps.Free.{CanFree, TaskIsLet}
use Rattle.plain_core.specs.steps.Views.{task_of_plain}
use Rattle.plain_core.proofs.step_lemmas.AnsweredByNeed.{tells_free}
use Rattle.plain_core.proofs.step_lemmas.Needed.{tells_both}
use Rattle.plain_core.proofs.steps.free.task_is_free.Goals as goal

pub returns-then-task_is_let : goal.returns-then-task_is_let
returns-then-task_is_let c = λ r.
    tells_both (TaskIsLet c.args.objects.now (task_of_plain c.args.task.now)) (CanFree c.args.objects.now (request (routing_setup r) (task_of_plain c.args.task.now))) c.is_met.result c.if-task_is_let.ensures
    (tells_free c.args.objects.now (request (routing_setup r) (task_of_plain c.args.task.now)) c.task_need.result c.is_met.result (c.task_need.ensures (routing_setup r)) c.is_met.ensures)
