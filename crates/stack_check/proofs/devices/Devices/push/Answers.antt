use Rattle.std.proofs.Common.{◌<◌, length, get_or, ap, arith}
use Rattle.std.proofs.lemmas.List.{length-map, length_push, get_or-map}
use Rattle.stack_base.specs.declared.ids.DevId.{DevId}
use Rattle.decl_text.specs.Known.{Declared}
use Rattle.stack_check.proofs.DeviceTallies.{last_below, sizes_many}
use Rattle.stack_check.proofs.devices.Devices.push.Goals as goal

pub mark-requires : goal.mark-requires
mark-requires c =
    let members = c.placed.inside.members.items in
    let number = λ (m : DevId). m.0 in
    λ k d lt.
    let within : k < length members = omega (arith, ap length c.deref.ensures.0) in
    omega (
      arith,
      last_below c.args.self.now c.args.placed c.requires.sound k 0 (omega (arith, length-map members number, ap (λ (p : Declared). length p.members) c.placed.view_is)),
      ap (λ (p : Declared). get_or p.members k 0) c.placed.view_is,
      get_or-map number members k d 0 within,
      ap (λ ms. (get_or ms k d).0) c.deref.ensures.0,
      c.requires.sound.few,
      length_push c.args.self.now c.args.placed,
      c.self.told,
    )

pub push-requires-2 : goal.push-requires-2
push-requires-2 c =
    let inside = c.self.inside in
    let few : length inside.sizes.items < 32 =
    omega (
      arith,
      sizes_many inside.sizes.items inside.taken inside.disks inside.sectors inside.placed.items c.self.invariant,
      ap length c.self.view_is,
      c.requires.sound.few,
      length_push c.args.self.now c.args.placed,
    ) in
    (omega arith, few)
