use Rattle.shared_tests.proofs.Told.{is_of}
use Rattle.shared_tests.proofs.workers.leave.Goals as goal

pub returns : goal.returns
returns g c =
    let scene = c.args.scene.now in
    is_of c.run_workers-closed.result c.in_ok-outcome.outcome scene.accepted scene.work c.in_ok-shared.shared.told.value c.in_ok-outcome.ensures.merged
    c.run_workers-closed.ensures.told c.in_ok-shared.ensures.of
