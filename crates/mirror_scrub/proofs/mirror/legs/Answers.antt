-- By whether the device is a mirror.
use Rattle.std.proofs.Common.{sym, ap, ◌∙◌}
use Rattle.stack_base.specs.Tree.{shape_of}
use Rattle.mirror_scrub.proofs.LegLemmas.{legs_of_mirror, legs_of_other}
use Rattle.mirror_scrub.proofs.mirror.legs.Goals as goal

pub returns-in-Mirror : goal.returns-in-Mirror
returns-in-Mirror c =
    c.len.ensures.value
    ∙ sym (legs_of_mirror c.args.stack.now c.requires.stack c.args.dev.0 c.device-device.result.now c.device-device.ensures.found (ap shape_of c.in-Mirror.is))

pub returns-in_default : goal.returns-in_default
returns-in_default c =
    sym (legs_of_other c.args.stack.now c.requires.stack c.args.dev.0 c.device-device.result.now c.device-device.ensures.found c.in_default.not-Mirror)
