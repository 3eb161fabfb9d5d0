use Rattle.std.proofs.Common.{◌-◌, length}
use Rattle.std.specs.List.{flat_map, range_with_len}
use Rattle.outside_io.specs.Saying.{PenState, Says}
use Rattle.mirror_scrub.specs.Seen.{held}
use Rattle.mirror_scrub.specs.Text.{mirror_lines, scrub_text}
use Rattle.mirror_scrub.proofs.lines.scrub.Given as goal

-- what says the lines from here on completes all of them
abbrev pub invariant-devices : goal.invariant-devices
invariant-devices g l = (end : g.row.K.Denot) (pen : PenState)
    → Says g.K.Sink l.out l.pen end pen
    (flat_map (mirror_lines l.stack (held l.disks)) (range_with_len l.number (length l.stack.devices.items - l.number)))
    → Says g.K.Sink l.initial.out l.initial.pen end pen (scrub_text l.stack (held l.disks))
