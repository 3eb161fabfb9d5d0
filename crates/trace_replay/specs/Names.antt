-- The numbers of nodes in the lines of a trace are names: a new node may have any that no open node of its writer's
-- book has. In the machine a node's number is its place.
use Rattle.std.specs.Prelude.{◌+◌, if◌then◌else◌, ℕ, Option, None, Some, is_none}
use Rattle.std.specs.Option.{option_map}
use Rattle.run_machine.specs.declared.event.End.{End}
use Rattle.run_machine.specs.declared.event.End.TheVariants as end
use Rattle.run_machine.specs.declared.event.What.{What}
use Rattle.run_machine.specs.declared.event.What.TheVariants as what
use Rattle.run_machine.specs.declared.event.Event.{Event}
use Rattle.run_machine.specs.Maps.{upd}

-- how many nodes each writer has opened, and where its open node of each name is
pub record Names : Type 0 where
  pub opened : ℕ → ℕ
  pub place : ℕ → ℕ → Option ℕ

-- before all events
abbrev pub no_names : Names
no_names = record { opened = λ writer. 0; place = λ writer name. None }

-- the writer's name is of the node at this place from now on, or of none
abbrev pub renamed : Names → ℕ → ℕ → Option ℕ → ℕ → ℕ → Option ℕ
renamed names writer name place = upd names.place writer (upd (names.place writer) name place)

-- The nodes of a writer stand in its book in the order in which they are opened. A book has a place for each node
-- that its writer opens in a run, so no place is used twice.
abbrev pub linked : Names → ℕ → ℕ → Names
linked names writer name = record {
  opened = upd names.opened writer (names.opened writer + 1);
  place = renamed names writer name (Some (names.opened writer));
}

-- a name is of no node any more
abbrev pub freed : Names → ℕ → ℕ → Names
freed names writer name = record names { place = renamed names writer name None }

-- a name is free again when its node has closed
abbrev pub dropped : Names → ℕ → ℕ → End → Names
dropped names writer name end.Left = names
dropped names writer name end.Up = freed names writer name
dropped names writer name end.Top = freed names writer name

-- the names after an event
abbrev pub names_after : Names → What → Names
names_after names (what.Link writer how name) = linked names writer name
names_after names (what.Drop writer name status end) = dropped names writer name end
names_after names what = names

-- what an event that names nodes is in the machine; nothing where the name of a new node is taken, or that of an old one is of none
abbrev pub placed : Names → What → Option What
placed names (what.Link writer how name) = if is_none (names.place writer name) then Some (what.Link writer how (names.opened writer)) else None
placed names (what.Drop writer name status end) = option_map (λ place. what.Drop writer place status end) (names.place writer name)
placed names what = Some what

abbrev pub event_placed : Names → Event → Option Event
event_placed names event = option_map (λ what. record event { what = what }) (placed names event.what)
