use Rattle.std.proofs.Common.{ap}
use Rattle.stack_base.specs.Tree.{shape_of}
use Rattle.layout_model.proofs.MirrorLemmas.{disk_place}
use Rattle.layout_model.proofs.way.+place.Goals as goal

pub returns-in-Disk : goal.returns-in-Disk
returns-in-Disk t c =
    disk_place c.args.stack.now c.requires.stack c.args.dev.0 c.device-device.result.now c.device-device.ensures.found c.in-Disk.sectors
    (ap shape_of c.in-Disk.is) c.args.sector c.args.choices.now
