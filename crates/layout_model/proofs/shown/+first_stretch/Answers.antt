-- A disk shows itself.
use Rattle.std.proofs.Common.{◌+◌, ap, arith}
use Rattle.stack_base.specs.Tree.{shape_of}
use Rattle.layout_model.proofs.MirrorLemmas.{disk_is, disk_shown}
use Rattle.layout_model.proofs.shown.+first_stretch.Goals as goal

pub returns-in-Disk : goal.returns-in-Disk
returns-in-Disk t c = record {
  some = c.requires.some;
  within = omega arith;
  known = c.requires.device;
  disk = disk_is c.args.stack.now c.requires.stack c.args.dev.0 c.device-device.result.now c.device-device.ensures.found c.in-Disk.sectors
      (ap shape_of c.in-Disk.is);
  inside = c.requires.within;
  shows = λ i lt. disk_shown c.args.stack.now c.requires.stack c.args.dev.0 c.device-device.result.now c.device-device.ensures.found c.in-Disk.sectors
      (ap shape_of c.in-Disk.is) (c.args.start + i);
}
