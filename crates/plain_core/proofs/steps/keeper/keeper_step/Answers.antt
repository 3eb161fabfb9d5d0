use Rattle.std.proofs.Common.{◌≡◌, ◌==◌, ◌∷◌, List, true, sum, sym, ap, ◌∙◌, rules}
use Rattle.run_machine.specs.Tasks.{Duty, later_of}
use Rattle.task_steps.specs.KeeperViews.{duty_of}
use Rattle.plain_core.proofs.step_lemmas.Tasks.{keeper_done}
use Rattle.plain_core.proofs.steps.keeper.keeper_step.Goals as goal

pub returns-in-Ok : goal.returns-in-Ok
returns-in-Ok c =
    let all = c.args.keeper.now in
    let duty = duty_of c.in-Some.duty in
    let rest = c.advance.new.self in
    let next : all ≡ duty ∷ rest = c.in-Some.ensures.1 ∙ ap (λ (ds : List Duty). duty ∷ ds) (sym c.advance.ensures) in
    let ready : (sum c.args.objects.now.tally.left == later_of duty) ≡ true = search rules in
    λ r. keeper_done r c.args.objects.now c.keep.new.objects all rest duty c.args.what.now next ready c.in-Ok.ensures
