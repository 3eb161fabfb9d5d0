-- A state with its nodes at other places of the books, and with plain elements: tasks, requests and replies, where all that names a node names its other
-- place, and each element is of the ledger that stands for that of its pool.
use Rattle.std.proofs.Common.{ℕ}
use Rattle.std.specs.Prelude.{map}
use Rattle.std.specs.Option.{option_map}
use Rattle.elem_ledger.specs.Ledger.{LedgerId}
use Rattle.bio_records.specs.declared.bio.Bio.{Bio}
use Rattle.bio_records.specs.declared.bio.Pad.{Pad}
use Rattle.bio_records.specs.declared.tasks.TaskLists.{TaskLists}
use Rattle.bio_records.specs.Items.{Item}
use Rattle.bio_books.specs.declared.node.Role.{Role}
use Rattle.bio_books.specs.declared.node.Role.TheVariants as role
use Rattle.bio_books.specs.Books.{VectorItem, SlipItem, Holding, Node}
use Rattle.bio_books.specs.Drops.{Closed, DropOutcome}
use Rattle.bio_books.specs.Drops as end
use Rattle.bio_books.specs.Links.{Linked, Made, NoRoom, Stray}
use Rattle.model_disks.specs.Disks.{DiskState}
use Rattle.run_machine.specs.declared.event.Event.{Event}
use Rattle.run_machine.specs.declared.event.What.{What}
use Rattle.run_machine.specs.declared.event.What.TheVariants as what
use Rattle.run_machine.specs.Submissions.{Want, Takes, WantsPunt, Links, Driving, ToPush, ToCut, ToRecord, ToMaster, Doing, Rests, Drives, Copies, Breaks, Submission}
use Rattle.run_machine.specs.Tasks.{Gathered, NoBio, HasBio, HasBoth, Carried, Empty, Brings, Carries, Fails, TaskState, Writer, Rescuer, Completer, Keeper}
use Rattle.run_machine.specs.Requests.{Request, Reply, Opening, Write, Chain, Master, Leg, GiveBio, GiveVec, GiveSlip, Punt, Push, Link, Drop, HadBio, HadVec, HadSlip, Popped, Completed, LinkedTo, DroppedTo}
use Rattle.plain_core.specs.objects.Ledgers.{ledger_of}

-- by writer and place, the other place of the node that is open there
abbrev pub Places : Type 0
Places = ℕ → ℕ → ℕ

abbrev pub bio_to : Places → Bio → Bio
bio_to to bio = record bio { node = to bio.writer bio.node }

abbrev pub share_to : LedgerId → LedgerId
share_to share = ledger_of share.no

abbrev pub item_to : Places → Item Pad → Item Pad
item_to to item = record item { bio = bio_to to item.bio; share = share_to item.share }

-- an element at hand has no bio yet
abbrev pub hand_to : Item Pad → Item Pad
hand_to item = record item { share = share_to item.share }

abbrev pub vector_to : VectorItem → VectorItem
vector_to vector = record vector { share = share_to vector.share }

abbrev pub slip_to : SlipItem → SlipItem
slip_to slip = record slip { share = share_to slip.share }

-- A bio that only waits to go back to its pool names a node that may have closed: it may say any place.
abbrev pub item_with : ℕ → Item Pad → Item Pad
item_with gone item = record item { bio = record item.bio { node = gone }; share = share_to item.share }

abbrev pub lists_to : Places → TaskLists → TaskLists
lists_to to lists = record { list0 = map (item_to to) lists.list0; list1 = map (item_to to) lists.list1 }

abbrev pub want_to : Want → Want
want_to (Takes waits) = Takes waits
want_to WantsPunt = WantsPunt
want_to (Links hand) = Links (hand_to hand)

abbrev pub ask_to : Driving → Driving
ask_to ToPush = ToPush
ask_to (ToCut want) = ToCut (want_to want)
ask_to ToRecord = ToRecord
ask_to (ToMaster slip) = ToMaster (slip_to slip)

-- nor does the bio that a mirror copies name a node, but its master does
abbrev pub doing_to : Places → ℕ → Doing → Doing
doing_to to gone Rests = Rests
doing_to to gone (Drives bio ask) = Drives (item_to to bio) (ask_to ask)
doing_to to gone (Copies bio master leg want) = Copies (record bio { node = gone }) (to bio.writer master) leg (want_to want)
doing_to to gone (Breaks breach kept) = Breaks breach kept

abbrev pub submission_to : Places → ℕ → Submission → Submission
submission_to to gone submission = record { doing = doing_to to gone submission.doing; lists = lists_to to submission.lists }

abbrev pub taken_to : Gathered → Gathered
taken_to NoBio = NoBio
taken_to (HasBio bio) = HasBio (hand_to bio)
taken_to (HasBoth bio vector) = HasBoth (hand_to bio) (vector_to vector)

abbrev pub holding_to : ℕ → Holding → Holding
holding_to gone held = record {
  bio = option_map (item_with gone) held.bio;
  vector = option_map vector_to held.vector;
  slip = option_map slip_to held.slip;
}

abbrev pub closed_to : (ℕ → ℕ) → ℕ → Closed → Closed
closed_to to gone closed = record closed { held = holding_to gone closed.held; parent = option_map to closed.parent }

abbrev pub carried_to : Places → ℕ → Carried → Carried
carried_to to gone Empty = Empty
carried_to to gone (Brings bio status) = Brings (item_to to bio) status
carried_to to gone (Carries writer closed) = Carries writer (closed_to (to writer) gone closed)
carried_to to gone (Fails breach kept) = Fails breach kept

abbrev pub task_to : Places → ℕ → TaskState → TaskState
task_to to gone (Writer number todo taken submission) = Writer number todo (taken_to taken) (submission_to to gone submission)
task_to to gone (Rescuer dev submission) = Rescuer dev (submission_to to gone submission)
task_to to gone (Completer disk carried) = Completer disk (carried_to to gone carried)
task_to to gone (Keeper keeping) = Keeper keeping

abbrev pub role_to : (ℕ → ℕ) → Role → Role
role_to to role.Top = role.Top
role_to to (role.Chain parent) = role.Chain (to parent)
role_to to (role.Master parent) = role.Master (to parent)
role_to to (role.Leg parent) = role.Leg (to parent)

abbrev pub node_to : (ℕ → ℕ) → ℕ → Node → Node
node_to to gone node = record node { role = role_to to node.role; held = holding_to gone node.held }

abbrev pub disk_to : Places → DiskState → DiskState
disk_to to disk = record disk { pending = map (item_to to) disk.pending }

abbrev pub opening_to : Places → ℕ → Opening → Opening
opening_to to writer (Write write vector) = Write write (option_map vector_to vector)
opening_to to writer (Chain parent) = Chain (to writer parent)
opening_to to writer (Master parent part slip legs) = Master (to writer parent) (item_to to part) (slip_to slip) legs
opening_to to writer (Leg master) = Leg (to writer master)

abbrev pub request_to : Places → ℕ → Request → Request
request_to to gone (GiveBio bio) = GiveBio (item_with gone bio)
request_to to gone (GiveVec vector) = GiveVec (vector_to vector)
request_to to gone (GiveSlip slip) = GiveSlip (slip_to slip)
request_to to gone (Punt dev moved) = Punt dev (map (item_to to) moved)
request_to to gone (Push bio) = Push (item_to to bio)
request_to to gone (Link writer opening) = Link writer (opening_to to writer opening)
request_to to gone (Drop writer node status part) = Drop writer (to writer node) status (option_map (item_to to) part)
request_to to gone request = request

-- whose book a request is for
abbrev pub writer_in : Request → ℕ
writer_in (Link writer opening) = writer
writer_in (Drop writer node status part) = writer
writer_in request = 0

abbrev pub linked_to : (ℕ → ℕ) → Linked → Linked
linked_to to (Made place) = Made (to place)
linked_to to (NoRoom back) = NoRoom back
linked_to to (Stray back) = Stray back

abbrev pub ended_to : (ℕ → ℕ) → ℕ → DropOutcome → DropOutcome
ended_to to gone end.Left = end.Left
ended_to to gone (end.Up closed) = end.Up (closed_to to gone closed)
ended_to to gone (end.Top closed) = end.Top (closed_to to gone closed)
ended_to to gone (end.Stray part) = end.Stray part

-- what is replied to a request for this writer's book, or for another object
abbrev pub reply_to : Places → ℕ → ℕ → Reply → Reply
reply_to to writer gone (HadBio got bio) = HadBio got (hand_to bio)
reply_to to writer gone (HadVec got vector) = HadVec got (vector_to vector)
reply_to to writer gone (HadSlip got slip) = HadSlip got (slip_to slip)
reply_to to writer gone (Popped bio) = Popped (item_to to bio)
reply_to to writer gone (Completed index bio status) = Completed index (item_to to bio) status
reply_to to writer gone (LinkedTo answer) = LinkedTo (linked_to (to writer) answer)
reply_to to writer gone (DroppedTo ended) = DroppedTo (ended_to (to writer) gone ended)
reply_to to writer gone reply = reply

-- and what is told of it
abbrev pub what_to : Places → What → What
what_to to (what.Link writer how node) = what.Link writer how (to writer node)
what_to to (what.Drop writer node status end) = what.Drop writer (to writer node) status end
what_to to what = what

abbrev pub event_to : Places → Event → Event
event_to to event = record event { what = what_to to event.what }
