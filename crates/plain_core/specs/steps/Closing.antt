-- What a completer does with a bio that ended, and with a closed node.
use Rattle.std.specs.Prelude.{◌≡◌, ℕ, Bool, true, false, Option, Some, None, Result, Ok, Err}
use Rattle.stack_base.specs.declared.ids.DevId.{DevId}
use Rattle.bio_records.specs.declared.bio.Pad.{Pad}
use Rattle.bio_records.specs.Items.{Item}
use Rattle.bio_books.specs.Books.{Holding, VectorItem, SlipItem}
use Rattle.bio_books.specs.Drops.{Closed}
use Rattle.run_machine.specs.declared.event.What.{What}
use Rattle.run_machine.specs.Requests.{Request, Reply, Did}
use Rattle.run_machine.specs.Tasks as task
use Rattle.plain_core.specs.declared.steps.task.PlainCarried.{PlainCarried}
use Rattle.plain_core.specs.objects.Plain.{CoreObjects}
use Rattle.plain_core.specs.steps.Views.{carried_of_plain}
use Rattle.plain_core.specs.steps.Answers.{IsAnswer, Refuses}
use Rattle.plain_core.specs.declared.fault.CoreFault.{CoreFault}
use Rattle.plain_core.specs.declared.fault.CoreFault.TheVariants as fault

-- a completer goes on
abbrev pub CarriedMoves : CoreObjects → DevId → task.Carried → What → Result (Unit {0}) CoreFault → CoreObjects → task.Carried → Type 0
CarriedMoves old disk before what (Ok done) new after =
    (reply : Reply)
    × IsAnswer old (task.carried_request disk before) what reply new
    × (after ≡ task.carried_answered before reply)
CarriedMoves old disk before what (Err fault.NotEnabled) new after = (new ≡ old) × (after ≡ before) × Refuses old (task.carried_request disk before) what
CarriedMoves old disk before what (Err fault.Memory) new after = ⊥

-- the same of what a completer carries as plain data
abbrev pub CarriesOn : CoreObjects → DevId → PlainCarried → What → Result (Unit {0}) CoreFault → CoreObjects → PlainCarried → Type 0
CarriesOn old disk before what result new after = CarriedMoves old disk (carried_of_plain before) what result new (carried_of_plain after)

-- the first of the elements that a closed node holds went back, or it holds none
abbrev pub GivesFirst : CoreObjects → Option VectorItem → Option (Item Pad) → Option SlipItem → What → Result Bool CoreFault → CoreObjects
    → Option VectorItem → Option (Item Pad) → Option SlipItem → Type 0
GivesFirst old vector bio slip what (Ok true) new vector1 bio1 slip1 =
    (writer : ℕ) (closed : Closed) (parent : Option ℕ)
    → IsAnswer old (task.closed_request writer closed vector bio slip parent) what Did new
    × (task.Carries writer (record closed { held = record { vector = vector1; bio = bio1; slip = slip1 } }) ≡ task.given writer closed vector bio slip)
GivesFirst old vector bio slip what (Ok false) new vector1 bio1 slip1 =
    (new ≡ old) × (vector ≡ None) × (bio ≡ None) × (slip ≡ None) × (vector1 ≡ None) × (bio1 ≡ None) × (slip1 ≡ None)
GivesFirst old vector bio slip what (Err fault.NotEnabled) new vector1 bio1 slip1 =
    (new ≡ old) × (vector1 ≡ vector) × (bio1 ≡ bio) × (slip1 ≡ slip)
    × ((writer : ℕ) (closed : Closed) (parent : Option ℕ) → Refuses old (task.closed_request writer closed vector bio slip parent) what)
GivesFirst old vector bio slip what (Err fault.Memory) new vector1 bio1 slip1 = ⊥

abbrev pub GivesFirstHeld : CoreObjects → Holding → What → Result Bool CoreFault → CoreObjects → Holding → Type 0
GivesFirstHeld old held what result new after = GivesFirst old held.vector held.bio held.slip what result new after.vector after.bio after.slip

-- what a closed node asks for, and what is carried once it is answered
abbrev pub closed_asks : ℕ → Closed → Request
closed_asks writer closed = task.closed_request writer closed closed.held.vector closed.held.bio closed.held.slip closed.parent

abbrev pub closed_becomes : ℕ → Closed → Reply → task.Carried
closed_becomes writer closed reply = task.carried_answered (task.Carries writer closed) reply

-- the same node with nothing held
abbrev pub bare : Closed → Closed
bare closed = record closed { held = record { vector = None; bio = None; slip = None } }

-- a closed node is told to its parent, or its write is done, as one that holds nothing: whatever it holds does not count
abbrev pub PassesOn : CoreObjects → ℕ → Closed → What → Result PlainCarried CoreFault → CoreObjects → Type 0
PassesOn old writer closed what (Ok after) new =
    (reply : Reply)
    × IsAnswer old (closed_asks writer (bare closed)) what reply new
    × (carried_of_plain after ≡ closed_becomes writer (bare closed) reply)
PassesOn old writer closed what (Err fault.NotEnabled) new = (new ≡ old) × Refuses old (closed_asks writer (bare closed)) what
PassesOn old writer closed what (Err fault.Memory) new = ⊥

-- it goes on, and is still carried or no more
abbrev pub ClosedMoves : CoreObjects → ℕ → Closed → What → Result (Option PlainCarried) CoreFault → CoreObjects → Closed → Type 0
ClosedMoves old writer closed what (Ok None) new after =
    (reply : Reply)
    × IsAnswer old (closed_asks writer closed) what reply new
    × (task.Carries writer after ≡ closed_becomes writer closed reply)
ClosedMoves old writer closed what (Ok (Some carried)) new after =
    (reply : Reply)
    × IsAnswer old (closed_asks writer closed) what reply new
    × (carried_of_plain carried ≡ closed_becomes writer closed reply)
ClosedMoves old writer closed what (Err fault.NotEnabled) new after = (new ≡ old) × (after ≡ closed) × Refuses old (closed_asks writer closed) what
ClosedMoves old writer closed what (Err fault.Memory) new after = ⊥
