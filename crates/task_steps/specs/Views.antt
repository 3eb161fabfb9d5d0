-- What calls of the objects are handed and answer, without its boxes: as requests and replies.
use Rattle.std.specs.Prelude.{◌≡◌, ◌⊎◌, ◌<◌, ℕ, Option, None, Some, Result, Ok, Err}
use Rattle.elem_ledger.specs.declared.element.Element.{Element}
use Rattle.mempool_core.specs.declared.Taken.{Taken}
use Rattle.mempool_core.specs.declared.Taken.TheVariants as taken
use Rattle.bio_records.specs.declared.bio.Pad.{Pad}
use Rattle.bio_records.specs.declared.bio.Slip.{Slip}
use Rattle.bio_records.specs.declared.segment.Vector.{Vector}
use Rattle.bio_records.specs.declared.body.BioBody.{BioBody}
use Rattle.bio_records.specs.Items.{item_of, IsAlone}
use Rattle.bio_books.specs.Books.{VectorItem}
use Rattle.bio_books.specs.Views.{vector_of, slip_item, linked_of, drop_outcome_of, IsAlonePart, IsLinkAlone, IsDroppedAlone}
use Rattle.bio_books.specs.declared.book.Link.{Link}
use Rattle.bio_books.specs.declared.book.Dropped.{Dropped}
use Rattle.model_disks.specs.declared.disk.Done.{Done as DoneBio}
use Rattle.run_machine.specs.declared.event.Got.TheVariants as got
use Rattle.task_steps.specs.declared.objects.Ask.{Ask}
use Rattle.task_steps.specs.declared.objects.Ask.TheVariants as ask
use Rattle.task_steps.specs.declared.objects.Unmade.{Unmade}
use Rattle.task_steps.specs.declared.objects.Unmade.TheVariants as unmade
use Rattle.task_steps.specs.Choosing.{IsAskedOf}
use Rattle.run_machine.specs.Requests.{Reply, Opening, Write, Chain, Master, Leg, HadBio, HadVec, HadSlip, Missed, Did, Popped, Completed, LinkedTo, DroppedTo, OutIs, Nothing, NoTicket}

abbrev pub vec_item : Element Vector → VectorItem
vec_item element = record { segments = element.body.value.segments.items; share = element.share }

abbrev pub opening_of : Ask → Opening
opening_of (ask.Write write vector) = Write write (vector_of vector)
opening_of (ask.Chain parent) = Chain parent
opening_of (ask.Master parent part slip legs) = Master parent (item_of part) (slip_item slip) legs
opening_of (ask.Leg master) = Leg master

-- the bio that is handed over, if one is, is in no list
abbrev pub IsAskAlone : Ask → Type 0
IsAskAlone (ask.Write write vector) = Unit {0}
IsAskAlone (ask.Chain parent) = Unit {0}
IsAskAlone (ask.Master parent part slip legs) = IsAlone part
IsAskAlone (ask.Leg master) = Unit {0}

abbrev pub took_bio : Result (Taken (BioBody Pad)) Unmade → Reply
took_bio (Ok (taken.Ordinary element)) = HadBio got.Ordinary (item_of element)
took_bio (Ok (taken.Spare element)) = HadBio got.Spare (item_of element)
took_bio (Ok (taken.Miss used)) = Missed used
took_bio (Err back) = NoTicket

abbrev pub took_vec : Result (Taken Vector) Unmade → Reply
took_vec (Ok (taken.Ordinary element)) = HadVec got.Ordinary (vec_item element)
took_vec (Ok (taken.Spare element)) = HadVec got.Spare (vec_item element)
took_vec (Ok (taken.Miss used)) = Missed used
took_vec (Err back) = NoTicket

abbrev pub took_slip : Result (Taken Slip) Unmade → Reply
took_slip (Ok (taken.Ordinary element)) = HadSlip got.Ordinary (slip_item element)
took_slip (Ok (taken.Spare element)) = HadSlip got.Spare (slip_item element)
took_slip (Ok (taken.Miss used)) = Missed used
took_slip (Err back) = NoTicket

-- an element that was had has a body like this
abbrev pub TookClear : {P : Type 0} → (P → Type 0) → Result (Taken P) Unmade → Type 0
TookClear is_clear (Ok (taken.Ordinary element)) = is_clear element.body.value
TookClear is_clear (Ok (taken.Spare element)) = is_clear element.body.value
TookClear is_clear (Ok (taken.Miss used)) = Unit {0}
TookClear is_clear (Err back) = Unit {0}

abbrev pub did : Result (Unit {0}) Unmade → Reply
did (Ok done) = Did
did (Err back) = NoTicket

abbrev pub popped_reply : Result (Option (Element (BioBody Pad))) Unmade → Reply
popped_reply (Ok None) = Nothing
popped_reply (Ok (Some element)) = Popped (item_of element)
popped_reply (Err back) = NoTicket

abbrev pub PoppedAlone : Result (Option (Element (BioBody Pad))) Unmade → Type 0
PoppedAlone (Ok part) = IsAlonePart part
PoppedAlone (Err back) = Unit {0}

abbrev pub completed_reply : Result (Option (ℕ × DoneBio)) Unmade → Reply
completed_reply (Ok None) = Nothing
completed_reply (Ok (Some done)) = Completed done.0 (item_of done.1.el) done.1.status
completed_reply (Err back) = NoTicket

abbrev pub CompletedAlone : Result (Option (ℕ × DoneBio)) Unmade → Type 0
CompletedAlone (Ok None) = Unit {0}
CompletedAlone (Ok (Some done)) = IsAlone done.1.el
CompletedAlone (Err back) = Unit {0}

-- the index of the bio that was completed, if one was
abbrev pub completed_index : Reply → Option ℕ
completed_index (Completed index bio status) = Some index
completed_index reply = None

-- The first look found so many bios waiting. Where it found none, there is nothing, and the chooser stays. Where it found some, the chooser was
-- told how many and asked, whatever the reply is: a bio was completed, or all had gone when the disk was asked again, or there was no ticket.
abbrev pub Choice : {C : Type 0} → (C → ℕ → ℕ → C → Type 0) → (ℕ → Type 0) → (ℕ → ℕ → Option ℕ → Type 0) → C → Reply → C → Type 0
Choice chooses finds picks old reply new =
    (pending : ℕ) × finds pending × (((pending ≡ 0) × (reply ≡ Nothing) × (new ≡ old)) ⊎ ((0 < pending) × IsAskedOf chooses picks pending old (completed_index reply) new))

abbrev pub linked_reply : Result Link Unmade → Reply
linked_reply (Ok answer) = LinkedTo (linked_of answer)
linked_reply (Err back) = NoTicket

abbrev pub LinkedAlone : Result Link Unmade → Type 0
LinkedAlone (Ok answer) = IsLinkAlone answer
LinkedAlone (Err back) = Unit {0}

abbrev pub dropped_reply : Result Dropped Unmade → Reply
dropped_reply (Ok answer) = DroppedTo (drop_outcome_of answer)
dropped_reply (Err back) = NoTicket

abbrev pub DroppedAlone : Result Dropped Unmade → Type 0
DroppedAlone (Ok answer) = IsDroppedAlone answer
DroppedAlone (Err back) = Unit {0}

-- what is handed back of a part that came with an end
abbrev pub unmade_part : Option (Element (BioBody Pad)) → Unmade
unmade_part None = unmade.Nothing
unmade_part (Some element) = unmade.Bio element

abbrev pub resized_reply : Result ℕ Unmade → Reply
resized_reply (Ok out) = OutIs out
resized_reply (Err back) = NoTicket
