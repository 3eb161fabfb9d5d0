use Rattle.std.proofs.Common.{◌-◌, ◌<◌, ◌≤◌, ◌+◌, sym, subst, arith}
use Rattle.task_core.specs.opened.OfOne.{scenario_in}
use Rattle.block_core.specs.Bounded.{most_steps}
use Rattle.block_core.proofs.claim.Runnable.{steps_fit_in_24_bits}
use Rattle.serial_run.proofs.UnderWay.{IsUnderWay, runnable, starts, well, free, few, turns, some_task, ends}
use Rattle.serial_run.proofs.run.run_serial.Goals as goal

-- src/run.rt
pub turns-init : goal.turns-init
turns-init g c =
    subst (λ tasks. IsUnderWay g.V.Events.happens c.args.opened c.args.schedule.now c.args.events.now c.args.opened.objects tasks c.args.schedule.now c.args.events.now 0)
    (sym c.as_mut_slice-tasks.ensures.value) (starts g.V.Events.happens c.args.opened c.requires.opened c.args.schedule.now c.args.events.now)

pub turn-requires-clause-well : goal.turn-requires-clause-well
turn-requires-clause-well g c =
    well g.V.Events.happens c.args.opened c.requires.opened c.args.schedule.now c.args.events.now c.turns.objects
    c.turns.tasks c.turns.schedule c.turns.events c.turns.steps c.turns.invariant

pub turn-requires-clause-free : goal.turn-requires-clause-free
turn-requires-clause-free g c =
    let some = c.turns-test.true in
    let left = c.left.ensures in
    free g.V.Events.happens c.args.opened c.requires.opened c.args.schedule.now c.args.events.now c.turns.objects
    c.turns.tasks c.turns.schedule c.turns.events c.turns.steps c.turns.invariant (omega (arith, some, left))

pub overflow_add-steps : goal.overflow_add-steps
overflow_add-steps g c =
    let bound : c.turns.steps + 1 ≤ most_steps (scenario_in c.args.opened) =
    few g.V.Events.happens c.args.opened c.requires.opened c.args.schedule.now c.args.events.now c.turn.new.objects
    c.turn.new.tasks c.turn.new.schedule c.turn.new.events (c.turns.steps + 1)
    (turns g.V.Events.happens c.args.opened c.requires.opened c.args.schedule.now c.args.events.now c.turns.objects
    c.turns.tasks c.turns.schedule c.turns.events c.turns.steps c.turns.invariant c.turn.new.objects c.turn.new.tasks c.turn.new.schedule c.turn.new.events
    c.turn.ensures.turned c.turn.ensures.one c.turn.ensures.same c.turn.auto.tasks) in
    omega (arith, bound, steps_fit_in_24_bits (scenario_in c.args.opened) (runnable g.V.Events.happens c.args.opened c.requires.opened c.args.schedule.now c.args.events.now))

pub turns-smaller : goal.turns-smaller
turns-smaller g c =
    let bound : c.turns.steps + 1 ≤ most_steps (scenario_in c.args.opened) =
    few g.V.Events.happens c.args.opened c.requires.opened c.args.schedule.now c.args.events.now c.turn.new.objects
    c.turn.new.tasks c.turn.new.schedule c.turn.new.events (c.turns.steps + 1)
    (turns g.V.Events.happens c.args.opened c.requires.opened c.args.schedule.now c.args.events.now c.turns.objects
    c.turns.tasks c.turns.schedule c.turns.events c.turns.steps c.turns.invariant c.turn.new.objects c.turn.new.tasks c.turn.new.schedule c.turn.new.events
    c.turn.ensures.turned c.turn.ensures.one c.turn.ensures.same c.turn.auto.tasks) in
    let falls : most_steps (scenario_in c.args.opened) - (c.turns.steps + 1) < most_steps (scenario_in c.args.opened) - c.turns.steps = omega (arith, bound) in
    falls

pub turns-preserved : goal.turns-preserved
turns-preserved g c =
    turns g.V.Events.happens c.args.opened c.requires.opened c.args.schedule.now c.args.events.now c.turns.objects
    c.turns.tasks c.turns.schedule c.turns.events c.turns.steps c.turns.invariant c.turn.new.objects c.turn.new.tasks c.turn.new.schedule c.turn.new.events
    c.turn.ensures.turned c.turn.ensures.one c.turn.ensures.same c.turn.auto.tasks

pub leave-ended-requires-clause-some : goal.leave-ended-requires-clause-some
leave-ended-requires-clause-some g c =
    some_task g.V.Events.happens c.args.opened c.requires.opened c.args.schedule.now c.args.events.now c.turns.objects
    c.turns.tasks c.turns.schedule c.turns.events c.turns.steps c.turns.invariant

pub returns : goal.returns
returns g c =
    let none = c.turns-test.false in
    let left = c.left.ensures in
    record {
      ran =
          ends g.V.Events.happens c.args.opened c.requires.opened c.args.schedule.now c.args.events.now c.turns.objects
          c.turns.tasks c.turns.schedule c.turns.events c.turns.steps c.turns.invariant (omega (arith, none, left)) c.leave-ended.result c.leave-ended.ensures;
    }
