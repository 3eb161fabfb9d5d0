-- What a trace writes of events.
use Rattle.std.specs.Prelude.{◌≡◌, All, Bool, true, false, List, [], ◌∷◌, ◌++◌, ℕ, Option, IfSome, Result, is_some}
use Rattle.std.specs.Global.{Vec}
use Rattle.std.specs.List.{flat_map}
use Rattle.stack_base.specs.declared.stack.Stack.{Stack}
use Rattle.outside_io.specs.declared.sink.Sink.{Ghosts as SinkGhosts}
use Rattle.outside_io.specs.declared.source.Failed.{Failed}
use Rattle.outside_io.specs.Saying.{Says, Writes}
use Rattle.run_machine.specs.declared.event.Event.{Event}
use Rattle.run_machine.specs.Named.{FitsEvent}
use Rattle.trace_text.specs.Lines.{line_of_event}
use Rattle.biostack_top.specs.Streams.{SinkStream}
use Rattle.biostack_top.specs.declared.trace.Trace.{Trace}

-- the line of an event, with the byte 10 that ends it
abbrev pub event_line : Stack → Event → List ℕ
event_line stack event = line_of_event stack event ++ 10 ∷ []

-- those of events, in their order
unfoldable pub event_lines : Stack → List Event → List ℕ
event_lines stack events = flat_map (event_line stack) events

-- a trace went from old to new by the line of this event, over the same sink
pub record WritesLine {K : Type 0} (sink : SinkGhosts K) (old : Trace K) (event : Event) (new : Trace K) : Type 0 where
  pub same_reference : new.out.ghost_name ≡ old.out.ghost_name
  pub stack : new.stack.now ≡ old.stack.now
  pub says : Says sink old.out.now old.pen new.out.now new.pen (event_line old.stack.now event)

-- and only where there is to be a trace
abbrev pub traced : Bool → Stack → List Event → List ℕ
traced true stack events = event_lines stack events
traced false stack events = []

-- what is kept of the events of a run: all of them where there is to be a trace, and else nothing
abbrev pub IsTraceOf : Bool → List Event → Option (Vec Event) → Type 0
IsTraceOf trace events kept = (is_some kept ≡ trace) × IfSome kept (λ list. list.items ≡ events)

-- each event of what is kept of a run, where it is to have a trace, has numbers that fit its fields
abbrev pub FitsKept : Option (Vec Event) → Type 0
FitsKept kept = (trace : Bool) (events : List Event) → IsTraceOf trace events kept → trace ≡ true → All FitsEvent events

-- the trace of what was kept of a run was written, or a front of it where the output failed
abbrev pub WritesKept : {K : Type 0} → Option (Vec Event) → Stack → Result Unit Failed → SinkStream K → Type 0
WritesKept kept stack told out =
    (trace : Bool) (events : List Event) → IsTraceOf trace events kept
    → Writes out.of out.old out.new told (traced trace stack events)
