use Rattle.std.proofs.Common.{◌++◌, ◌∷◌, [], ◌∙◌, Bool, ap, cond, map, sym}
use Rattle.std.proofs.lemmas.List.{map-append}
use Rattle.task_steps.specs.declared.task.Kind.TheVariants as kind
use Rattle.run_machine.specs.Submissions.{rests}
use Rattle.task_core.specs.opened.NewTasks.{shown_tasks}
use Rattle.run_machine.specs.Opened.{device_at}
use Rattle.task_steps.specs.RescuerViews.{RescuerState, rescuer_task}
use Rattle.task_steps.specs.TaskViews.{task_of}
use Rattle.run_machine.specs.Tasks.{Rescuer}
use Rattle.task_core.proofs.opening.tasks.add_rescuer.Goals as goal

pub returns-in_ok-push : goal.returns-in_ok-push
returns-in_ok-push c =
    let old = c.args.kinds.now.items in
    let dev = c.args.dev in
    let yes = sym c.rescuer.ensures ∙ c.if-rescuer.true in
    ap shown_tasks c.in_ok-push.ensures.items ∙ map-append task_of old (kind.Rescuer c.new.result ∷ [])
    ∙ ap (λ (r : RescuerState). shown_tasks old ++ rescuer_task r ∷ []) c.new.ensures
    ∙ ap (λ (b : Bool). shown_tasks old ++ map (λ number. Rescuer (device_at number) rests) (cond b (dev.0 ∷ []) [])) (sym yes)
