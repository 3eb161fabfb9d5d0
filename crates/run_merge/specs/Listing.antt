-- The lists of what tasks noted, joined.
use Rattle.std.specs.Prelude.{◌≡◌, ℕ, true, List, All, Option, None, Some, IfSome}
use Rattle.std.specs.List.{flat_map}
use Rattle.std.specs.List.Sorted.{IsNonDecreasingBy}
use Rattle.std.specs.Global.{Vec}
use Rattle.run_machine.specs.declared.event.Event.{Event}
use Rattle.shared_objects.specs.declared.noted.Noted.{Noted}
use Rattle.run_merge.specs.Joining.{IsJoinedByTicket, all_in}

-- what a task noted is all that it had
abbrev pub IsWhole : Noted → Type 0
IsWhole noted = noted.whole ≡ true

-- a task noted this, and it is all that it had
abbrev pub IsList : Noted → List (ℕ × Event) → Type 0
IsList noted list = IsWhole noted × (list ≡ noted.events.items)

-- along it tickets rise, where it is all that the task had
abbrev pub WholeRises : Noted → Type 0
WholeRises noted = (list : List (ℕ × Event)) → IsList noted list → IsNonDecreasingBy (λ (e : ℕ × Event). e.0) list

-- where there is a trace, along each entry they do
abbrev pub TraceRises : Option (Vec Noted) → Type 0
TraceRises trace = IfSome trace (λ (list : Vec Noted). All WholeRises list.items)

-- each task has noted all that it had
abbrev pub AreWhole : List Noted → Type 0
AreWhole trace = All IsWhole trace

-- what tasks noted, one after the other
abbrev pub noted_in : List Noted → List (ℕ × Event)
noted_in trace = flat_map (λ (noted : Noted). noted.events.items) trace

-- these are the lists of tasks, and are whole
pub record AreWholeLists (trace : List Noted) (lists : List (Vec (ℕ × Event))) : Type 0 where
  pub whole : AreWhole trace
  pub all : all_in lists ≡ noted_in trace

-- with a trace, what tasks noted stands in the order of the tickets; without one there is nothing
abbrev pub IsTrace : Option (Vec Noted) → Option (Vec Event) → Type 0
IsTrace None None = Unit {0}
IsTrace (Some trace) (Some events) = AreWhole trace.items × IsJoinedByTicket (noted_in trace.items) events.items
IsTrace trace events = ⊥
