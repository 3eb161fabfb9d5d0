-- Tasks: what each asks for next, and how it goes on with a reply. Both are functions of the task's own state.
use Rattle.std.specs.Prelude.{◌==◌, ℕ, Bool, true, false, nat_lt, nat_le, List, [], ◌∷◌, Option, None, Some}
use Rattle.std.specs.Option.{is_some}
use Rattle.stack_base.specs.declared.ids.DevId.{DevId}
use Rattle.stack_base.specs.declared.ids.PoolId.{PoolId}
use Rattle.stack_base.specs.declared.ids.SetId.TheVariants.{Fs}
use Rattle.stack_base.specs.declared.ids.Status.{Status}
use Rattle.layout_model.specs.declared.write.Write as write
use Rattle.bio_records.specs.declared.bio.Bio.{Bio}
use Rattle.bio_records.specs.declared.bio.Pad.{Pad}
use Rattle.bio_records.specs.Items.{Item}
use Rattle.stack_base.specs.Segments.{segment_count}
use Rattle.bio_records.specs.Segments.{segments_of}
use Rattle.bio_books.specs.Books.{VectorItem, SlipItem}
use Rattle.bio_books.specs.Drops.{Closed, DropOutcome}
use Rattle.bio_books.specs.Drops as end
use Rattle.bio_books.specs.Links.{Linked, Made, NoRoom, Stray}
use Rattle.run_machine.specs.declared.event.Breach.{Breach}
use Rattle.run_machine.specs.declared.event.Breach.TheVariants as breach
use Rattle.run_machine.specs.Scene.{Setup}
use Rattle.run_machine.specs.Kept.{Kept, KeptBio, KeptVec, bio_kept, holding_kept}
use Rattle.run_machine.specs.Submissions.{Doing, Rests, Breaks, Submission, settled, link_refused, submission_request, submission_answered, doing_breach}
use Rattle.run_machine.specs.Requests.{Request, Reply, TakeBio, TakeVec, GiveBio, GiveVec, GiveSlip, Pop, Complete, Link, Drop, Done, Resize, NextRound, LookRound, LookLeft, Rest, Write, HadBio, HadVec, Did, Popped, Completed, LinkedTo, DroppedTo, OutIs, Present, LeftOver, NoTicket}

-- a write that a writer has still to begin, by its number, with its round
pub record Todo : Type 0 where
  pub number : ℕ
  pub round : ℕ
  pub write : write.Write

-- what a writer has taken for its next write
pub data Gathered : Type 0 where
  NoBio : Gathered
  HasBio : Item Pad → Gathered
  HasBoth : Item Pad → VectorItem → Gathered

-- what a completer carries: a bio that its disk is done with, or what is left of a node that has closed
pub data Carried : Type 0 where
  Empty : Carried
  Brings : Item Pad → Status → Carried
  Carries : (writer : ℕ) → Closed → Carried
  -- its completer cannot go on, and keeps what it carried and what came back
  Fails : Breach → (kept : List Kept) → Carried

-- what the keeper does next: a pool gets another reserve, or the round of this number starts. `later` is how many writes there are of that
-- round and of those behind it: none but these is unfinished when it may be done. Only the duty tells a round's number. That it is the next one
-- is a law (`rounds_go_by_their_numbers` of block_core)
pub data Duty : Type 0 where
  Resizes : (pool : PoolId) (min later : ℕ) → Duty
  Starts : (round later : ℕ) → Duty

pub data Keeping : Type 0 where
  Keeps : List Duty → Keeping
  Stops : Breach → Keeping

-- a writer, with the writes that it has still to begin, what it has taken for the first of them, and its submission; the rescuer of a
-- device's set, with its submission; the completer of a disk; and the keeper of the rounds
pub data TaskState : Type 0 where
  Writer : (number : ℕ) (todo : List Todo) → Gathered → Submission → TaskState
  Rescuer : DevId → Submission → TaskState
  Completer : DevId → Carried → TaskState
  Keeper : Keeping → TaskState

-- why a completer, or the keeper, cannot go on, if it can't
abbrev pub carried_breach : Carried → Option Breach
carried_breach Empty = None
carried_breach (Brings bio status) = None
carried_breach (Carries writer closed) = None
carried_breach (Fails breach kept) = Some breach

abbrev pub keeping_breach : Keeping → Option Breach
keeping_breach (Keeps duties) = None
keeping_breach (Stops breach) = Some breach

-- why a task asks for nothing more, though it has not done all, if it has broken off
abbrev pub breach_of : TaskState → Option Breach
breach_of (Writer number todo taken submission) = doing_breach submission.doing
breach_of (Rescuer dev submission) = doing_breach submission.doing
breach_of (Completer disk carried) = carried_breach carried
breach_of (Keeper keeping) = keeping_breach keeping

-- whether it has
abbrev pub is_broken : TaskState → Bool
is_broken task = is_some (breach_of task)

-- a bio keeps up to four segments itself (`BIO_INLINE_VECS`, block/bio.c)
abbrev pub needs_vector : write.Write → Bool
needs_vector write = nat_lt 4 (segment_count write.count)

-- the bio of a write, at its device, with the node at this place
abbrev pub first_bio : ℕ → Todo → ℕ → Bio
first_bio writer todo node = record {
  write = todo.number;
  writer = writer;
  node = node;
  dev = todo.write.dev;
  range = record { start = todo.write.start; len = todo.write.count };
  word = todo.write.tag;
  at = record { segment = 0; done = 0 };
  set = Fs;
}

abbrev pub filled : ℕ → Todo → ℕ → Item Pad → Item Pad
filled writer todo node item = record item { pad = record { leg = 0 }; bio = first_bio writer todo node }

-- the same with the write's segments, which a bio with a vector has there
abbrev pub filled_short : ℕ → Todo → ℕ → Item Pad → Item Pad
filled_short writer todo node item = record item {
  pad = record { leg = 0 };
  bio = first_bio writer todo node;
  short = segments_of todo.write.tag todo.write.count;
}

abbrev pub filled_vector : Todo → VectorItem → VectorItem
filled_vector todo vector = record vector { segments = segments_of todo.write.tag todo.write.count }

-- what a writer asks for outside of a submission: a bio; a vector, where the write needs one; and the node of the write
-- (`bio_alloc_bioset` and its `bvec_alloc`, block/bio.c)
abbrev pub with_bio : ℕ → Bool → Todo → Request
with_bio writer true todo = TakeVec
with_bio writer false todo = Link writer (Write todo.number None)

abbrev pub write_request : ℕ → List Todo → Gathered → Request
write_request writer [] taken = Rest
write_request writer (todo ∷ later) NoBio = TakeBio Fs true
write_request writer (todo ∷ later) (HasBio bio) = with_bio writer (needs_vector todo.write) todo
write_request writer (todo ∷ later) (HasBoth bio vector) = Link writer (Write todo.number (Some (filled_vector todo vector)))

abbrev pub writer_request : Setup → ℕ → List Todo → Gathered → Doing → Submission → Request
writer_request setup writer todo taken Rests submission = write_request writer todo taken
writer_request setup writer todo taken doing submission = submission_request setup doing submission.lists

abbrev pub rescuer_request : Setup → DevId → Doing → Submission → Request
rescuer_request setup dev Rests submission = Pop dev
rescuer_request setup dev doing submission = submission_request setup doing submission.lists

-- what a closed node still holds goes back first, vector, bio or record (`bio_free`, block/bio.c, and `free_r1bio`, drivers/md/raid1.c);
-- then its parent is told of its end, or its write is done
abbrev pub closed_request : ℕ → Closed → Option VectorItem → Option (Item Pad) → Option SlipItem → Option ℕ → Request
closed_request writer closed (Some vector) bio slip parent = GiveVec vector
closed_request writer closed None (Some bio) slip parent = GiveBio bio
closed_request writer closed None None (Some slip) parent = GiveSlip slip
closed_request writer closed None None None (Some parent) = Drop writer parent closed.status None
closed_request writer closed None None None None = Done closed.write closed.status

abbrev pub carried_request : DevId → Carried → Request
carried_request disk Empty = Complete disk
carried_request disk (Brings bio status) = Drop bio.bio.writer bio.bio.node status (Some bio)
carried_request disk (Carries writer closed) =
    closed_request writer closed closed.held.vector closed.held.bio closed.held.slip closed.parent
carried_request disk (Fails breach kept) = Rest

abbrev pub duty_request : Duty → Request
duty_request (Resizes pool min later) = Resize pool min
duty_request (Starts round later) = NextRound round

abbrev pub keeper_request : Keeping → Request
keeper_request (Keeps []) = Rest
keeper_request (Keeps (duty ∷ duties)) = duty_request duty
keeper_request (Stops breach) = Rest

-- what a task asks for next
abbrev pub request : Setup → TaskState → Request
request setup (Writer number todo taken submission) = writer_request setup number todo taken submission.doing submission
request setup (Rescuer dev submission) = rescuer_request setup dev submission.doing submission
request setup (Completer disk carried) = carried_request disk carried
request setup (Keeper keeping) = keeper_request keeping

-- what a task looks at before it asks: a writer at the present round, before the first take of a write, and the keeper at the number of
-- unfinished writes
abbrev pub writer_look : List Todo → Gathered → Doing → Option Request
writer_look (todo ∷ later) NoBio Rests = Some LookRound
writer_look todo taken doing = None

abbrev pub look_of : TaskState → Option Request
look_of (Writer number todo taken submission) = writer_look todo taken submission.doing
look_of (Rescuer dev submission) = None
look_of (Completer disk carried) = None
look_of (Keeper (Keeps (duty ∷ duties))) = Some LookLeft
look_of (Keeper keeping) = None

-- how many writes are left when a duty may be done
abbrev pub later_of : Duty → ℕ
later_of (Resizes pool min later) = later
later_of (Starts round later) = later

-- whether what it saw lets it ask: the round of a writer's next write has come, and every write of the rounds before the keeper's next one
-- is done
abbrev pub lets : TaskState → Reply → Bool
lets (Writer number (todo ∷ later) taken submission) (Present round) = nat_le todo.round round
lets (Keeper (Keeps (duty ∷ duties))) (LeftOver count) = count == later_of duty
lets task reply = false

-- what a writer has of what it has taken, once it hands a vector over
abbrev pub besides : Gathered → Gathered
besides NoBio = NoBio
besides (HasBio bio) = HasBio bio
besides (HasBoth bio vector) = HasBio bio

-- and the vector that it hands over, with the segments of its next write
abbrev pub vector_for : List Todo → VectorItem → VectorItem
vector_for [] vector = vector
vector_for (todo ∷ later) vector = filled_vector todo vector

abbrev pub handed_vector : List Todo → Gathered → List Kept
handed_vector todo NoBio = []
handed_vector todo (HasBio bio) = []
handed_vector todo (HasBoth bio vector) = KeptVec (vector_for todo vector) ∷ []

-- the top node of a write is open, and its bio is submitted; where it was refused, what was handed over for it comes back
abbrev pub begins : Setup → ℕ → List Todo → (ℕ → Item Pad) → Gathered → Todo → Submission → Linked → TaskState
begins setup writer later bio taken todo submission (Made node) = Writer writer later NoBio (settled setup (bio node ∷ []))
begins setup writer later bio taken todo submission (NoRoom back) =
    Writer writer (todo ∷ later) (besides taken) (record submission { doing = link_refused setup writer 0 [] (NoRoom back) })
begins setup writer later bio taken todo submission (Stray back) =
    Writer writer (todo ∷ later) (besides taken) (record submission { doing = link_refused setup writer 0 [] (Stray back) })

-- how a writer goes on outside of a submission
abbrev pub write_answered : Setup → ℕ → List Todo → Gathered → Submission → Reply → TaskState
write_answered setup writer todo taken submission NoTicket =
    Writer writer todo (besides taken) (record submission { doing = Breaks breach.Spent (handed_vector todo taken) })
write_answered setup writer (todo ∷ later) NoBio submission (HadBio got bio) = Writer writer (todo ∷ later) (HasBio bio) submission
write_answered setup writer (todo ∷ later) (HasBio bio) submission (HadVec got vector) = Writer writer (todo ∷ later) (HasBoth bio vector) submission
write_answered setup writer (todo ∷ later) (HasBio bio) submission (LinkedTo answer) =
    begins setup writer later (λ node. filled_short writer todo node bio) (HasBio bio) todo submission answer
write_answered setup writer (todo ∷ later) (HasBoth bio vector) submission (LinkedTo answer) =
    begins setup writer later (λ node. filled writer todo node bio) (HasBoth bio vector) todo submission answer
write_answered setup writer todo taken submission _ = Writer writer todo taken submission

abbrev pub writer_answered : Setup → ℕ → List Todo → Gathered → Doing → Submission → Reply → TaskState
writer_answered setup writer todo taken Rests submission reply = write_answered setup writer todo taken submission reply
writer_answered setup writer todo taken doing submission reply = Writer writer todo taken (submission_answered setup doing submission.lists reply)

abbrev pub rescuer_answered : Setup → DevId → Doing → Submission → Reply → TaskState
rescuer_answered setup dev Rests submission (Popped bio) = Rescuer dev (settled setup (bio ∷ []))
rescuer_answered setup dev Rests submission NoTicket = Rescuer dev (record submission { doing = Breaks breach.Spent [] })
rescuer_answered setup dev Rests submission _ = Rescuer dev submission
rescuer_answered setup dev doing submission reply = Rescuer dev (submission_answered setup doing submission.lists reply)

-- what is carried once the first was given of what a closed node holds, or its write is done
abbrev pub given : ℕ → Closed → Option VectorItem → Option (Item Pad) → Option SlipItem → Carried
given writer closed (Some vector) bio slip = Carries writer (record closed { held = record { vector = None; bio = bio; slip = slip } })
given writer closed None (Some bio) slip = Carries writer (record closed { held = record { vector = None; bio = None; slip = slip } })
given writer closed None None (Some slip) = Carries writer (record closed { held = record { vector = None; bio = None; slip = None } })
given writer closed None None None = Empty

-- a node was told of an end
abbrev pub after_drop : ℕ → ℕ → DropOutcome → Carried
after_drop writer node end.Left = Empty
after_drop writer node (end.Up closed) = Carries writer closed
after_drop writer node (end.Top closed) = Carries writer closed
after_drop writer node (end.Stray part) = Fails (breach.Stray writer node) (bio_kept part)

abbrev pub parent_or : Option ℕ → ℕ
parent_or None = 0
parent_or (Some parent) = parent

-- what is carried, of a closed node in the order in which it goes back
abbrev pub carried_kept : Carried → List Kept
carried_kept Empty = []
carried_kept (Brings bio status) = KeptBio bio ∷ []
carried_kept (Carries writer closed) = holding_kept closed.held
carried_kept (Fails breach kept) = kept

abbrev pub carried_answered : Carried → Reply → Carried
carried_answered carried NoTicket = Fails breach.Spent (carried_kept carried)
carried_answered Empty (Completed index bio status) = Brings bio status
carried_answered (Brings bio status) (DroppedTo ended) = after_drop bio.bio.writer bio.bio.node ended
carried_answered (Carries writer closed) (DroppedTo ended) = after_drop writer (parent_or closed.parent) ended
carried_answered (Carries writer closed) Did = given writer closed closed.held.vector closed.held.bio closed.held.slip
carried_answered carried _ = carried

-- a reserve was not changed where an element was out
abbrev pub after_resize : Bool → PoolId → ℕ → List Duty → Keeping
after_resize true pool out duties = Keeps duties
after_resize false pool out duties = Stops (breach.Out pool out)

abbrev pub keeper_answered : Keeping → Reply → Keeping
keeper_answered (Keeps (Resizes pool min later ∷ duties)) (OutIs out) = after_resize (out == 0) pool out duties
keeper_answered (Keeps (Starts round later ∷ duties)) Did = Keeps duties
keeper_answered (Keeps (duty ∷ duties)) NoTicket = Stops breach.Spent
keeper_answered keeping _ = keeping

-- how a task goes on with a reply
abbrev pub answered : Setup → TaskState → Reply → TaskState
answered setup (Writer number todo taken submission) reply = writer_answered setup number todo taken submission.doing submission reply
answered setup (Rescuer dev submission) reply = rescuer_answered setup dev submission.doing submission reply
answered setup (Completer disk carried) reply = Completer disk (carried_answered carried reply)
answered setup (Keeper keeping) reply = Keeper (keeper_answered keeping reply)
