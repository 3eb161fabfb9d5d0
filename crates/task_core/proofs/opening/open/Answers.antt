use Rattle.std.proofs.Common.{◌≡◌, arith, length, refl, subst}
use Rattle.run_machine.specs.Opened.{tally_in}
use Rattle.task_core.specs.Leaving.{IsReservedForRun}
use Rattle.task_core.specs.opened.NewTasks.{reserves_in}
use Rattle.task_core.specs.opened.Openings.{AreOpened}
use Rattle.task_steps.specs.Routed.{Routing}
use Rattle.task_core.proofs.opened.MeantAsAsked.{shared}
use Rattle.task_core.proofs.opened.Opens.{opened_of}
use Rattle.task_core.proofs.opening.open.Goals as goal

pub open_tasks-requires-clause-shared : goal.open_tasks-requires-clause-shared
open_tasks-requires-clause-shared c = shared c.args.accepted.now c.args.work.now c.requires.read

pub returns-clause-opened : goal.returns-clause-opened
returns-clause-opened c =
    let work = c.args.work.now in
    let len = c.len.ensures in
    let ok = work.writes.ok in
    let many : c.len.result ≡ length work.writes.items = omega (arith, len, ok) in
    let objects =
    subst (λ (r : Routing). AreOpened r c.args.accepted.now.scripts.items (reserves_in work.resizes.items) (tally_in work.rounds.items work.writes.items) c.in_ok-open_plain.field-0)
    c.deref.ensures c.in_ok-open_plain.ensures in
    let room = subst (λ writes. IsReservedForRun c.args.accepted.now.stack writes c.in_ok-room.room) many c.in_ok-room.ensures in
    opened_of _ c.in_ok-routes.routes.value c.in_ok-routes.left.items c.args.accepted.now work c.of.ensures c.of-2.ensures refl
    (c.requires.read, c.requires.rescuers, c.in_ok-routes.ensures, objects, room)
