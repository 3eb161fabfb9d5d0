use Rattle.std.proofs.Common.{All, take}
use Rattle.std.specs.List.{flat_map}
use Rattle.outside_io.specs.Saying.{Says}
use Rattle.run_machine.specs.Named.{FitsEvent}
use Rattle.biostack_top.specs.Tracing.{event_line}
use Rattle.biostack_top.proofs.trace.write_lines.Given as goal

-- the lines of the events so far, whose numbers fit
abbrev pub invariant-telling : goal.invariant-telling
invariant-telling g l =
    Says g.K.Sink l.fn.out l.fn.pen l.out l.pen (flat_map (event_line l.stack) (take l.event-index l.events))
    × All FitsEvent (take l.event-index l.events)
