use Rattle.work_text.specs.Generated.{word, behind}
use Rattle.serial_run.proofs.Sweeps.{IsSweep}
use Rattle.serial_run.proofs.turn.turn.Given as goal

abbrev pub invariant-trying : goal.invariant-trying
invariant-trying g l =
    IsSweep l.fn.objects l.objects l.fn.tasks l.tasks (word l.fn.schedule) l.place l.passed (behind l.fn.schedule) l.schedule l.fn.events l.events
