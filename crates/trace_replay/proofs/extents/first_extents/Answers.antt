-- The pools of one device after the other.
use Rattle.std.proofs.Common.{[], ◌∷◌, length, ap, arith}
use Rattle.plain_core.specs.Cores.{state_of_core}
use Rattle.report_text.proofs.PoolLemmas.{first_behind}
use Rattle.trace_replay.specs.Replay.{extent_over}
use Rattle.trace_replay.specs.Walks.{extents_over}
use Rattle.trace_replay.proofs.WalkLemmas.{devices_end, devices_on}
use Rattle.trace_replay.proofs.extents.first_extents.Goals as goal

pub overflow_cast-number : goal.overflow_cast-number
overflow_cast-number c = omega (arith, c.requires, c.devices-test.true, ap length c.deref-device-items.ensures.value)

pub devices-preserved : goal.devices-preserved
devices-preserved c =
    let devices = c.args.stack.now.devices.items in
    let number = c.devices.number in
    let device = c.device-item.result in
    let cut = first_behind devices c.deref-device-items.result.now number device c.deref-device-items.ensures.value c.devices-test.true c.device-item.is in
    devices_on (extent_over (state_of_core c.args.core.now ∷ [])) devices number device c.devices.extents.items c.push_pools.new.extents.items
    (extents_over c.args.stack.now (state_of_core c.args.core.now ∷ [])) cut c.devices.invariant c.in_ok-push_pools.ensures

pub returns : goal.returns
returns c =
    let devices = c.args.stack.now.devices.items in
    devices_end (extent_over (state_of_core c.args.core.now ∷ [])) devices c.devices.number (extents_over c.args.stack.now (state_of_core c.args.core.now ∷ [])) c.devices.extents.items
    (omega (arith, c.devices-test.false, ap length c.deref-device-items.ensures.value)) c.devices.invariant
