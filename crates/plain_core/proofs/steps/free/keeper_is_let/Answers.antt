use Rattle.std.proofs.Common.{◌==◌, drop, sum, ap, sym, ◌∙◌}
use Rattle.task_steps.specs.KeeperViews.{duty_of}
use Rattle.plain_core.proofs.step_lemmas.Needed.{keeper_let}
use Rattle.plain_core.proofs.steps.free.keeper_is_let.Goals as goal

pub returns-in-Some : goal.returns-in-Some
returns-in-Some c =
    let all = c.args.keeper.now in
    keeper_let c.args.objects.now all (duty_of c.in-Some.duty) (drop 1 all) c.has_left.result c.in-Some.ensures.1
    (sym (c.has_left.ensures ∙ ap (λ n. sum c.args.objects.now.tally.left == n) c.later.ensures))
