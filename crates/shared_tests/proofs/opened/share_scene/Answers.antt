use Rattle.run_machine.specs.Scenario.{scenario_of}
use Rattle.shared_tests.proofs.Told.{shared_of_it}
use Rattle.shared_tests.proofs.opened.share_scene.Goals as goal

pub returns-clause-of : goal.returns-clause-of
returns-clause-of c =
    let scene = c.args.scene.now in
    shared_of_it c.share.result c.in_ok-opened.opened (scenario_of scene.accepted scene.work) c.share.ensures.told c.in_ok-opened.ensures.of
