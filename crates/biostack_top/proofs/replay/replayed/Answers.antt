-- What was replayed began where the runs of the scene begin.
use Rattle.std.proofs.Common.{List, subst}
use Rattle.fail_script.specs.Script.{Answers}
use Rattle.stack_base.specs.declared.ids.PoolId.{PoolId}
use Rattle.run_machine.specs.Scenario.{scenario_by}
use Rattle.plain_core.specs.opening.Opening.{IsOpenedCore}
use Rattle.trace_replay.specs.Lines.{told_in}
use Rattle.biostack_top.proofs.ReplayLemmas.{comes_if_ok}
use Rattle.biostack_top.proofs.replay.replayed.Goals as goal

pub returns : goal.returns
returns c =
    let scene = c.args.scene.now in
    let parts = c.args.parts.now in
    comes_if_ok c.replay.result scene.text.now scene.accepted scene.work (told_in parts.first parts.events.now) c.in_ok-core.core c.requires.said
    (c.accepted_stacks_are_named.ensures scene.accepted) c.runs_have_no_bad_line.ensures c.none_is_stuck.ensures
    (subst (λ (scripts : List (PoolId × Answers)). IsOpenedCore (scenario_by scene.accepted.stack scripts scene.work) c.in_ok-core.core) c.deref.ensures.value
    c.in_ok-core.ensures)
    c.replay.ensures.replay c.replay.ensures.pools
