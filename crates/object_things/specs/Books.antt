-- A book as a thing.
use Rattle.std.specs.Prelude.{◌≡◌, ℕ, Option, Some, IfErr}
use Rattle.stack_base.specs.declared.ids.Status.{Status}
use Rattle.bio_books.specs.Books.{BookState}
use Rattle.bio_books.specs.Drops.{DropOutcome, Drops}
use Rattle.bio_books.specs.Links.{Linked}
use Rattle.bio_books.specs.Views.{bio_of, IsAlonePart}
use Rattle.task_steps.specs.declared.objects.Unmade.TheVariants as unmade
use Rattle.run_machine.specs.Events.{drop_of, link_of}
use Rattle.run_machine.specs.Requests.{Request, Reply, Opening, Link, Drop, LinkedTo, DroppedTo, NoTicket}
use Rattle.run_machine.specs.Objects.{OpensNode}
use Rattle.run_machine.specs.Laws.{OfBook}
use Rattle.task_steps.specs.Stage.{RequestFits, Owes}
use Rattle.task_steps.specs.Views.{opening_of, linked_reply, dropped_reply, unmade_part, IsAskAlone, LinkedAlone, DroppedAlone}
use Rattle.object_things.specs.declared.stamp.Asking.{Asking}
use Rattle.object_things.specs.declared.stamp.Replied.{Replied}
use Rattle.object_things.specs.declared.book.BookAsk.{BookAsk}
use Rattle.object_things.specs.declared.book.BookAsk.TheVariants as ask
use Rattle.object_things.specs.declared.book.BookSaid.{BookSaid}
use Rattle.object_things.specs.declared.book.BookSaid.TheVariants as said
use Rattle.object_things.specs.Stamps.{Stamped, MarkState, mark_of, Told, ThingState, ThingAnswers, ChoosesNone, PassByReply, FindsNone, stage_in, StampState, thing_state, carried, told_by, AskingFits}

abbrev pub book_asked : BookAsk → Request
book_asked (ask.Link writer asked) = Link writer (opening_of asked)
book_asked (ask.Drop writer node status part) = Drop writer node status (bio_of part)

abbrev pub book_replied : BookSaid → Reply
book_replied (said.Linked result) = linked_reply result
book_replied (said.Dropped result) = dropped_reply result

abbrev pub book_told : Replied BookSaid → Told
book_told = told_by book_replied

-- what is served by the book of a writer
abbrev pub BookServes : BookState → Request → Reply → BookState → Type 0
BookServes old (Link writer opening) (LinkedTo answer) new = (writer ≡ old.writer) × OpensNode old opening answer new
BookServes old (Drop writer node status part) (DroppedTo ended) new = (writer ≡ old.writer) × Drops old node status part ended new
BookServes old request reply new = ⊥

abbrev pub BookLooks : ThingState BookState → Request → Reply → ThingState BookState → Type 0
BookLooks old (Link writer opening) NoTicket new = FindsNone old new
BookLooks old (Drop writer node status part) NoTicket new = FindsNone old new
BookLooks old request reply new = ⊥

abbrev pub BookAnswers : ThingState BookState → Request → Told → ThingState BookState → Type 0
BookAnswers = ThingAnswers BookServes BookLooks ChoosesNone

-- the same of a book with its stamp, which gave this reply
abbrev pub BookReplies : BookState → StampState → Request → Replied BookSaid → BookState → StampState → Type 0
BookReplies old stamp asked replied new after = BookAnswers (thing_state old stamp) asked (book_told replied) (thing_state new after)

-- the ticket that the entry of a link carries which came to this, and that of a drop, where this number was drawn
abbrev pub IsTicketOfLink : Linked → ℕ → Option ℕ → Type 0
IsTicketOfLink linked number ticket = (writer : ℕ) (opening : Opening) → ticket ≡ carried (link_of writer opening linked) (Some number)

abbrev pub IsTicketOfDrop : DropOutcome → ℕ → Option ℕ → Type 0
IsTicketOfDrop ended number ticket = (writer node : ℕ) (status : Status) → ticket ≡ carried (drop_of writer node status ended) (Some number)

-- each bio that is handed over is in no list
abbrev pub BookAskAlone : BookAsk → Type 0
BookAskAlone (ask.Link writer asked) = IsAskAlone asked
BookAskAlone (ask.Drop writer node status part) = IsAlonePart part

abbrev pub BookFits : MarkState → Asking BookAsk → Type 0
BookFits mark asking = AskingFits book_asked mark asking (RequestFits (stage_in mark.common) (book_asked asking.ask) × BookAskAlone asking.ask)

-- beside what is owed by the stage, bios that come back are in no list, and where there was no ticket all that was handed over comes back
abbrev pub BookSays : BookAsk → BookSaid → Type 0
BookSays (ask.Link writer asked) (said.Linked result) = LinkedAlone result × IfErr result (λ back. back ≡ unmade.Ask asked)
BookSays (ask.Drop writer node status part) (said.Dropped result) = DroppedAlone result × IfErr result (λ back. back ≡ unmade_part part)
BookSays asked reply = ⊥

pub record BookOwes (mark : MarkState) (asking : Asking BookAsk) (replied : Replied BookSaid) : Type 0 where
  pub pass : PassByReply book_replied asking.pass replied
  pub owed : Owes (stage_in mark.common) (book_asked asking.ask) (book_replied replied.said)
  pub says : BookSays asking.ask replied.said

abbrev pub book_mark : Stamped BookState → MarkState
book_mark held = mark_of (OfBook held.object.writer) held
