-- Each device shows sectors of a disk, as many of both as the shorter stretch has.
use Rattle.std.proofs.Common.{◌≡◌, ◌≤◌, not, length, arith}
use Rattle.stack_base.specs.Tree.{size, tree}
use Rattle.image_lanes.specs.Lanes.{equal_words}
use Rattle.model_disks.specs.Disks.{DiskState}
use Rattle.mirror_scrub.proofs.SeenLemmas.{there_is, shows_one, low_one, within_one}
use Rattle.mirror_scrub.proofs.pair.Pair.stretch.Goals as goal

pub disk_of-requires : goal.disk_of-requires
disk_of-requires c =
    there_is _ (λ (disk : DiskState). length disk.image ≡ size (tree c.args.self.now.stack.now c.first_stretch-here.result.dev.0)) (λ _. Unit {0})
    (λ disk is. tt) (c.requires.pair.disks c.first_stretch-here.result.dev.0 c.first_stretch-here.ensures.known c.first_stretch-here.ensures.disk)

pub disk_of-requires-2 : goal.disk_of-requires-2
disk_of-requires-2 c =
    there_is _ (λ (disk : DiskState). length disk.image ≡ size (tree c.args.self.now.stack.now c.first_stretch-there.result.dev.0)) (λ _. Unit {0})
    (λ disk is. tt) (c.requires.pair.disks c.first_stretch-there.result.dev.0 c.first_stretch-there.ensures.known c.first_stretch-there.ensures.disk)

pub returns : goal.returns
returns c =
    let p = c.args.self.now in
    let pair = c.requires.pair in
    let here = c.first_stretch-here in
    let there = c.first_stretch-there in
    let n = c.min.result in
    let one : n ≤ here.result.len = omega (arith, c.min.ensures) in
    let other : n ≤ there.result.len = omega (arith, c.min.ensures) in
    let disk = c.disk_of in
    let disk_there = c.disk_of-2 in
    record {
      some = omega (arith, c.min.ensures, here.ensures.some, there.ensures.some);
      short = omega (arith, one, here.ensures.within, c.requires.start);
      within = record {
        one = within_one p.stack.now p.disks.now p.one.0 c.args.start _ here.result disk.result.now here.ensures disk.ensures pair.disks n one;
        other = within_one p.stack.now p.disks.now p.other.0 c.args.start _ there.result disk_there.result.now there.ensures disk_there.ensures pair.disks n other;
        low = omega (arith, one, low_one p.stack.now p.disks.now p.one.0 c.args.start _ here.result disk.result.now here.ensures disk.ensures pair.stack);
        also = omega (arith, other, low_one p.stack.now p.disks.now p.other.0 c.args.start _ there.result disk_there.result.now there.ensures disk_there.ensures pair.stack);
      };
      same = λ i lt k. not (equal_words
          (shows_one p.stack.now p.disks.now p.one.0 c.args.start _ here.result disk.result.now here.ensures disk.ensures i (omega (arith, lt, one)) k)
          (shows_one p.stack.now p.disks.now p.other.0 c.args.start _ there.result disk_there.result.now there.ensures disk_there.ensures i (omega (arith, lt, other)) k));
    }
