-- What says the lines of the other devices completes all of them.
use Rattle.std.proofs.Common.{arith}
use Rattle.report_text.proofs.LineLemmas.{devices_on, devices_end}
use Rattle.report_text.proofs.check.device_lines.Goals as goal

pub devices-preserved : goal.devices-preserved
devices-preserved g c = λ end pen said.
    c.devices.invariant end pen
    (devices_on c.args.stack.now c.args.stack.now.devices.items c.deref-device-items.result.now c.devices.number c.device-item.result c.size-sectors.result
    c.deref-device-items.ensures.value c.devices-test.true c.device-item.is c.size-sectors.ensures c.device_line.ensures said)

pub returns : goal.returns
returns g c =
    c.devices.invariant _ _
    (devices_end g.K.Sink c.devices.out c.devices.pen c.args.stack.now c.args.stack.now.devices.items c.devices.number (omega arith))
