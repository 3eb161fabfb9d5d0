-- What was said is the text of what the scene says.
use Rattle.std.proofs.Common.{true, refl}
use Rattle.report_text.specs.CheckText.{check_text}
use Rattle.biostack_top.proofs.RunningLemmas.{few_steps}
use Rattle.biostack_top.proofs.serve.check.Goals as goal

pub write_check-requires-clause-bound : goal.write_check-requires-clause-bound
write_check-requires-clause-bound g c =
    let scene = c.args.scene.now in few_steps scene.text.now scene.accepted scene.work c.requires

pub returns-in-Ok : goal.returns-in-Ok
returns-in-Ok g c =
    let scene = c.args.scene.now in
    let written = c.in-Ok.ensures in
    (written.cause.quiet, c.requires.fine, (check_text scene.accepted.stack scene.work.bound, (scene.accepted, scene.work, c.requires, refl, refl), written.whole))

pub returns-in-Err : goal.returns-in-Err
returns-in-Err g c =
    let scene = c.args.scene.now in
    let written = c.in-Err.ensures in
    (written.cause.failed, written.stops, c.requires.fine, (check_text scene.accepted.stack scene.work.bound, true, (scene.accepted, scene.work, c.requires, refl, refl), written.front))
