-- The lines of one more device's pools are said, and the pools of the devices behind it are left.
use Rattle.std.proofs.Common.{◌<◌, ◌-◌, ◌+◌, length, take, drop, sym, ap, ◌∙◌, subst, arith}
use Rattle.std.specs.Prelude.{All}
use Rattle.report_text.specs.Pools.{HasDeviceOfPool, falling_from}
use Rattle.report_text.proofs.PoolLemmas.{ids, first_behind, behind_place, front_ids, own_ids, device_has, pools_on, pools_end}
use Rattle.report_text.proofs.pools.device_pools.Goals as goal

pub overflow_sub-rest : goal.overflow_sub-rest
overflow_sub-rest g c =
    let devices = c.args.stack.now.devices.items in
    let number = c.devices.device-index in
    let device = c.device-item.result in
    let more = drop (number + 1) devices in
    let cut = first_behind devices c.deref-device-items.result.now number device c.deref-device-items.ensures.value c.devices-test.true c.device-item.is in
    let are = c.devices.invariant.are ∙ ap (falling_from number) cut in
    omega (arith, behind_place number device more c.devices.rest.now are, c.pool_count.ensures)

pub lines_of-requires : goal.lines_of-requires
lines_of-requires g c =
    let devices = c.args.stack.now.devices.items in
    let number = c.devices.device-index in
    let device = c.device-item.result in
    let rest = c.devices.rest.now in
    let more = drop (number + 1) devices in
    let cut = first_behind devices c.deref-device-items.result.now number device c.deref-device-items.ensures.value c.devices-test.true c.device-item.is in
    let are = c.devices.invariant.are ∙ ap (falling_from number) cut in
    let own_is = c.split_at.ensures.back ∙ ap (λ n. drop (length rest - n) rest) c.pool_count.ensures in
    let own = ap ids own_is ∙ own_ids number device more rest are in
    let within : number < length devices = omega (arith, c.devices-test.true, ap length c.deref-device-items.ensures.value) in
    subst (All (HasDeviceOfPool c.args.stack.now)) (sym own) (device_has c.args.stack.now number device.kind within)

pub devices-preserved : goal.devices-preserved
devices-preserved g c =
    let devices = c.args.stack.now.devices.items in
    let number = c.devices.device-index in
    let device = c.device-item.result in
    let rest = c.devices.rest.now in
    let more = drop (number + 1) devices in
    let cut = first_behind devices c.deref-device-items.result.now number device c.deref-device-items.ensures.value c.devices-test.true c.device-item.is in
    let are = c.devices.invariant.are ∙ ap (falling_from number) cut in
    let own_is = c.split_at.ensures.back ∙ ap (λ n. drop (length rest - n) rest) c.pool_count.ensures in
    let front_is = c.split_at.ensures.front ∙ ap (λ n. take (length rest - n) rest) c.pool_count.ensures in
    record {
      are = ap ids front_is ∙ front_ids number device more rest are;
      so_far = λ end pen said. c.devices.invariant.so_far end pen
          (pools_on c.args.stack.now devices c.deref-device-items.result.now number device rest c.split_at.result.1.now c.split_at.result.0.now
          c.deref-device-items.ensures.value c.devices-test.true c.device-item.is c.devices.invariant.are own_is front_is c.lines_of.ensures said);
    }

pub returns : goal.returns
returns g c =
    c.devices.invariant.so_far _ _
    (pools_end g.K.Sink c.devices.out c.devices.pen c.args.stack.now c.args.stack.now.devices.items c.devices.device-index
    c.devices.rest.now (omega (arith, c.devices-test.false, ap length c.deref-device-items.ensures.value)))
