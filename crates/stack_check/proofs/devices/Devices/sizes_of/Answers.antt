use Rattle.std.proofs.Common.{length, ap, arith}
use Rattle.std.proofs.lemmas.List.{length-map, get_or-map}
use Rattle.stack_base.specs.declared.ids.DevId.{DevId}
use Rattle.stack_check.proofs.DeviceTallies.{sizes_many}
use Rattle.stack_check.proofs.devices.Devices.sizes_of.Goals as goal

pub bounds-deref-member : goal.bounds-deref-member
bounds-deref-member c =
    let inside = c.self.inside in
    let members = c.args.members.now in
    let number = λ (m : DevId). m.0 in
    omega (
      arith,
      c.requires.known c.loop-member.member-index 0 (omega (arith, length-map members number)),
      get_or-map number members c.loop-member.member-index (record { 0 = 0 }) 0 c.loop-member-test.true,
      sizes_many inside.sizes.items inside.taken inside.disks inside.sectors inside.placed.items c.self.invariant,
      ap length c.self.view_is,
      ap length c.deref.ensures.0,
    )
