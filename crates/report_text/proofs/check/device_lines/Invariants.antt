use Rattle.std.proofs.Common.{drop}
use Rattle.outside_io.specs.Saying.{PenState, Says}
use Rattle.report_text.specs.CheckText.{device_lines}
use Rattle.report_text.proofs.check.device_lines.Given as goal

-- what says the lines from here on completes all of them
abbrev pub invariant-devices : goal.invariant-devices
invariant-devices g l = (end : g.row.K.Denot) (pen : PenState)
    → Says g.K.Sink l.out l.pen end pen (device_lines l.stack l.number (drop l.number l.stack.devices.items))
    → Says g.K.Sink l.fn.out l.fn.pen end pen (device_lines l.stack 0 l.stack.devices.items)
