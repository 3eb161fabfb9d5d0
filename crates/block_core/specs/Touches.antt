-- What events do to nodes, and what is known of nodes by the events of a run.
use Rattle.std.specs.Prelude.{ℕ, Bool, true, false, List, [], ◌∷◌, Option, None, Some}
use Rattle.bio_books.specs.declared.node.Role.{Role}
use Rattle.bio_books.specs.declared.node.Role.TheVariants as role
use Rattle.bio_books.specs.Books.{Node, node_at}
use Rattle.run_machine.specs.declared.event.End.TheVariants as left
use Rattle.run_machine.specs.declared.event.Event.{Event}
use Rattle.run_machine.specs.declared.event.What.{What}
use Rattle.run_machine.specs.declared.event.What.TheVariants as what
use Rattle.run_machine.specs.Maps.{upd}
use Rattle.run_machine.specs.Scene.{Scene}
use Rattle.run_machine.specs.Runs.{State, IsRun}

-- An event opens the node at a place of a writer's book, tells it an end with which it closes, or does neither.
pub data Touch : Type 0 where
  Opens : (writer node : ℕ) → Touch
  Shuts : (writer node : ℕ) → Touch
  Passes : Touch

abbrev pub touch_of : What → Touch
touch_of (what.Link writer how node) = Opens writer node
touch_of (what.Drop writer node status left.Left) = Passes
touch_of (what.Drop writer node status left.Up) = Shuts writer node
touch_of (what.Drop writer node status left.Top) = Shuts writer node
touch_of what = Passes

abbrev pub is_master : Role → Bool
is_master role.Top = false
is_master (role.Chain parent) = false
is_master (role.Master parent) = true
is_master (role.Leg parent) = false

abbrev pub is_master_at : Option Node → Bool
is_master_at None = false
is_master_at (Some node) = is_master node.role

-- Whether what is left of a node that a task carries was a master, by the places of tasks, once this event of the task at a place has come: of a
-- node that the event closes, as its role was.
abbrev pub masters_after : State → ℕ → Touch → (ℕ → Bool) → ℕ → Bool
masters_after old place (Opens writer node) was = was
masters_after old place (Shuts writer node) was = upd was place (is_master_at (node_at (old.objects.book writer) node))
masters_after old place Passes was = was

-- and once all events of a run have
abbrev pub were_masters : (scene : Scene) (old : State) (events : List Event) (new : State) → IsRun scene old events new → (ℕ → Bool) → ℕ → Bool
were_masters scene old [] new run was = was
were_masters scene old (event ∷ events) new (next, (place, steps), run) was =
    were_masters scene next events new run (masters_after old place (touch_of event.what) was)

-- none is carried at the start
abbrev pub none_was : ℕ → Bool
none_was place = false
