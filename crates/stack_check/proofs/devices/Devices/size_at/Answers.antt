use Rattle.std.proofs.Common.{length, ap, arith}
use Rattle.stack_check.proofs.DeviceTallies.{sizes_many}
use Rattle.stack_check.proofs.devices.Devices.size_at.Goals as goal

pub bounds-deref-number : goal.bounds-deref-number
bounds-deref-number c =
    let inside = c.self.inside in
    omega (
      arith,
      sizes_many inside.sizes.items inside.taken inside.disks inside.sectors inside.placed.items c.self.invariant,
      ap length c.self.view_is,
      ap length c.deref.ensures.0,
    )
