-- Lines and events are two forms of one thing.
use Rattle.std.specs.Prelude.{◌≡◌, ◌&&◌, nat_le, nat_lt, ℕ, Bool, true, List, Option, None, Some}
use Rattle.std.specs.List.{list_all}
use Rattle.stack_base.specs.declared.stack.Stack.{Stack}
use Rattle.run_machine.specs.declared.event.Event.{Event}
use Rattle.trace_text.specs.Names.{DevicesAreNamed}
use Rattle.trace_text.specs.Lines.{FitsEvent, IsEventOf, line_of_event}

-- the line is that of this event of the stack
pub record IsEventLine (stack : Stack) (line : List ℕ) (event : Event) : Type 0 where
  pub said : line ≡ line_of_event stack event
  pub named : IsEventOf stack event
  pub fits : FitsEvent event

-- the event whose line it is, or nothing where it is the line of none
abbrev pub IsEventRead : Stack → List ℕ → Option Event → Type 0
IsEventRead stack line (Some event) = IsEventLine stack line event
IsEventRead stack line None = (event : Event) → IsEventLine stack line event → ⊥

-- blanks and the visible characters of ASCII
abbrev pub is_line_byte : ℕ → Bool
is_line_byte byte = nat_le 32 byte && nat_lt byte 127

-- a line of an event has no others, so none that ends a line
abbrev pub LinesAreText : Type 0
LinesAreText = (stack : Stack) (line : List ℕ) (event : Event) → DevicesAreNamed stack → IsEventLine stack line event → list_all is_line_byte line ≡ true

-- two events of a stack never have one line
abbrev pub EventsAreApart : Type 0
EventsAreApart = (stack : Stack) (line : List ℕ) (one other : Event) → DevicesAreNamed stack → IsEventLine stack line one → IsEventLine stack line other → one ≡ other

-- what is read of an event's line is the event
abbrev pub LinesAreReadBack : Type 0
LinesAreReadBack = (stack : Stack) (event : Event) (answer : Option Event) → DevicesAreNamed stack → IsEventOf stack event → FitsEvent event
    → IsEventRead stack (line_of_event stack event) answer → answer ≡ Some event
