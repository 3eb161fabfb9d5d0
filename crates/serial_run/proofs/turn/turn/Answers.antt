use Rattle.std.proofs.Common.{arith}
use Rattle.work_text.specs.Generated.{word, behind}
use Rattle.serial_run.proofs.Sweeps.{passes_on, some_steps}
use Rattle.serial_run.proofs.turn.turn.Goals as goal

-- src/turn.rt
pub trying-preserved : goal.trying-preserved
trying-preserved g c =
    passes_on g.V.Events.happens c.args.objects.now c.args.tasks.now (word c.args.schedule.now) (behind c.args.schedule.now) c.args.events.now c.trying.objects
    c.trying.tasks c.trying.place c.trying.passed c.trying.schedule c.trying.events c.trying.invariant c.attempt.new.objects c.attempt.new.tasks
    c.following-place.result c.attempt.new.schedule c.attempt.new.events c.attempt.result c.attempt.ensures.tried c.if-attempt.false c.attempt.ensures.one
    c.attempt.ensures.same c.attempt.auto.tasks c.following-place.ensures

pub unreachable-requires : goal.unreachable-requires
unreachable-requires g c =
    let all = c.trying-test.false in
    some_steps _ _ (word c.args.schedule.now) c.requires.free (λ k lt. c.trying.invariant.others k (omega (arith, lt, all)))
