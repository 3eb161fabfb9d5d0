-- How a request of a task is answered, so that an event tells it, and where it can't be.
use Rattle.std.specs.Prelude.{◌≡◌, ℕ, Option, Some, Result, Ok, Err}
use Rattle.stack_base.specs.declared.ids.DevId.{DevId}
use Rattle.stack_base.specs.declared.ids.Status.{Status}
use Rattle.bio_records.specs.declared.bio.Pad.{Pad}
use Rattle.bio_records.specs.Items.{Item}
use Rattle.bio_books.specs.Books.{VectorItem}
use Rattle.bio_books.specs.Links.{Made}
use Rattle.run_machine.specs.declared.event.What.{What}
use Rattle.run_machine.specs.Requests.{Request, Reply, Complete, Completed, Drop, DroppedTo, Link, LinkedTo, Write}
use Rattle.run_machine.specs.Events.{what_of}
use Rattle.run_machine.specs.Objects.{Objects, Serves}
use Rattle.plain_core.specs.declared.objects.book.NodeOutcome.{NodeOutcome}
use Rattle.plain_core.specs.objects.Books.{ended_of_plain}
use Rattle.plain_core.specs.objects.Ledgers.{ledger_of}
use Rattle.plain_core.specs.objects.Plain.{CoreObjects, objects_of_core}
use Rattle.plain_core.specs.declared.fault.CoreFault.{CoreFault}
use Rattle.plain_core.specs.declared.fault.CoreFault.TheVariants as fault

-- the reply answers the request, and the event tells so
pub record IsAnswer (old : CoreObjects) (request : Request) (what : What) (reply : Reply) (new : CoreObjects) : Type 0 where
  pub stack : new.stack ≡ old.stack
  pub told : what_of request reply ≡ Some what
  pub serves : Serves ledger_of (objects_of_core old) request reply (objects_of_core new)

-- no reply does
abbrev pub Refuses : CoreObjects → Request → What → Type 0
Refuses old request what = (reply : Reply) (new : Objects) → what_of request reply ≡ Some what → Serves ledger_of (objects_of_core old) request reply new → ⊥

-- some reply does
pub record HasAnswer (old : CoreObjects) (request : Request) (what : What) : Type 0 where
  pub reply : Reply
  pub new : Objects
  pub told : what_of request reply ≡ Some what
  pub serves : Serves ledger_of (objects_of_core old) request reply new

-- a request that takes no memory is answered, or it can't be so that the event tells it
abbrev pub AnswersRequest : {X : Type 0} → CoreObjects → Request → What → (X → Reply) → Result X CoreFault → CoreObjects → Type 0
AnswersRequest old request what replied (Ok x) new = IsAnswer old request what (replied x) new
AnswersRequest old request what replied (Err fault.NotEnabled) new = (new ≡ old) × Refuses old request what
AnswersRequest old request what replied (Err fault.Memory) new = ⊥

-- so answers a disk that ends a bio, a book that tells a node of an end, and one that opens the node of a write
abbrev pub AnswersComplete : CoreObjects → DevId → What → Result (ℕ × Item Pad × Status) CoreFault → CoreObjects → Type 0
AnswersComplete old disk what result new = AnswersRequest old (Complete disk) what (λ done. Completed done.0 done.1 done.2) result new

abbrev pub AnswersDrop : CoreObjects → ℕ → ℕ → Status → Option (Item Pad) → What → Result NodeOutcome CoreFault → CoreObjects → Type 0
AnswersDrop old writer node status part what result new =
    AnswersRequest old (Drop writer node status part) what (λ ended. DroppedTo (ended_of_plain ended)) result new

abbrev pub AnswersWrite : CoreObjects → ℕ → ℕ → Option VectorItem → What → Result ℕ CoreFault → CoreObjects → Type 0
AnswersWrite old writer write vector what result new =
    AnswersRequest old (Link writer (Write write vector)) what (λ node. LinkedTo (Made node)) result new

-- one that takes some was not answered: it can't be, or it could be but for memory
abbrev pub Lacks : CoreObjects → Request → What → CoreFault → CoreObjects → Type 0
Lacks old request what fault.NotEnabled new = (new ≡ old) × Refuses old request what
Lacks old request what fault.Memory new = (new ≡ old) × HasAnswer old request what
