-- Only keepers start rounds and change reserves.
use Rattle.std.proofs.Common.{◌≡◌, ℕ, Bool, true, false, List, [], ◌∷◌, Option, None, Some, refl}
use Rattle.bio_records.specs.declared.bio.Pad.{Pad}
use Rattle.bio_records.specs.declared.tasks.TaskLists.{TaskLists}
use Rattle.bio_records.specs.Items.{Item}
use Rattle.bio_books.specs.Books.{VectorItem, SlipItem}
use Rattle.bio_books.specs.Drops.{Closed}
use Rattle.stack_base.specs.declared.ids.DevId.{DevId}
use Rattle.run_machine.specs.Scene.{Setup}
use Rattle.run_machine.specs.Submissions.{Takes, WantsPunt, Links, ToPush, ToCut, ToRecord, ToMaster, Doing, Rests, Drives, Copies, Breaks, Submission, submission_request}
use Rattle.run_machine.specs.Requests.{Request, NextRound, Resize}
use Rattle.run_machine.specs.Tasks.{Todo, Gathered, NoBio, HasBio, HasBoth, Carried, Empty, Brings, Carries, Fails, request, write_request, with_bio, needs_vector, writer_request, rescuer_request, carried_request, closed_request}
use Rattle.shared_objects.specs.Calls.{struck}

-- the requests of keepers
abbrev pub is_keeping : Request → Bool
is_keeping (NextRound round) = true
is_keeping (Resize pool min) = true
is_keeping request = false

submission_keeps_none : (setup : Setup) (doing : Doing) (lists : TaskLists) → is_keeping (struck (submission_request setup doing lists)) ≡ false
-- no submission, or one that broke off
submission_keeps_none setup Rests lists = refl
submission_keeps_none setup (Breaks breach kept) lists = refl
-- a bio that is driven
submission_keeps_none setup (Drives bio ToPush) lists = refl
submission_keeps_none setup (Drives bio (ToCut (Takes waits))) lists = refl
submission_keeps_none setup (Drives bio (ToCut WantsPunt)) lists = refl
submission_keeps_none setup (Drives bio (ToCut (Links hand))) lists = refl
submission_keeps_none setup (Drives bio ToRecord) lists = refl
submission_keeps_none setup (Drives bio (ToMaster slip)) lists = refl
-- copies for the legs of a mirror
submission_keeps_none setup (Copies bio master leg (Takes waits)) lists = refl
submission_keeps_none setup (Copies bio master leg WantsPunt) lists = refl
submission_keeps_none setup (Copies bio master leg (Links hand)) lists = refl

write_keeps_none : (writer : ℕ) (todo : List Todo) (taken : Gathered) → is_keeping (struck (write_request writer todo taken)) ≡ false
write_keeps_none writer [] taken = refl
write_keeps_none writer (todo ∷ later) NoBio = refl
write_keeps_none writer (todo ∷ later) (HasBio bio) = by_need (needs_vector todo.write)
  where
    by_need : (needs : Bool) → is_keeping (struck (with_bio writer needs todo)) ≡ false
    by_need true = refl
    by_need false = refl
write_keeps_none writer (todo ∷ later) (HasBoth bio vector) = refl

closed_keeps_none : (writer : ℕ) (closed : Closed) (vector : Option VectorItem) (bio : Option (Item Pad)) (slip : Option SlipItem) (parent : Option ℕ)
    → is_keeping (struck (closed_request writer closed vector bio slip parent)) ≡ false
closed_keeps_none writer closed (Some vector) bio slip parent = refl
closed_keeps_none writer closed None (Some bio) slip parent = refl
closed_keeps_none writer closed None None (Some slip) parent = refl
closed_keeps_none writer closed None None None (Some parent) = refl
closed_keeps_none writer closed None None None None = refl

pub writer_keeps_none : (setup : Setup) (number : ℕ) (todo : List Todo) (taken : Gathered) (doing : Doing) (submission : Submission)
    → is_keeping (struck (writer_request setup number todo taken doing submission)) ≡ false
writer_keeps_none setup number todo taken Rests submission = write_keeps_none number todo taken
writer_keeps_none setup number todo taken (Drives bio ask) submission = submission_keeps_none setup (Drives bio ask) submission.lists
writer_keeps_none setup number todo taken (Copies bio master leg want) submission = submission_keeps_none setup (Copies bio master leg want) submission.lists
writer_keeps_none setup number todo taken (Breaks breach kept) submission = refl

pub rescuer_keeps_none : (setup : Setup) (dev : DevId) (doing : Doing) (submission : Submission) → is_keeping (struck (rescuer_request setup dev doing submission)) ≡ false
rescuer_keeps_none setup dev Rests submission = refl
rescuer_keeps_none setup dev (Drives bio ask) submission = submission_keeps_none setup (Drives bio ask) submission.lists
rescuer_keeps_none setup dev (Copies bio master leg want) submission = submission_keeps_none setup (Copies bio master leg want) submission.lists
rescuer_keeps_none setup dev (Breaks breach kept) submission = refl

pub completer_keeps_none : (disk : DevId) (carried : Carried) → is_keeping (struck (carried_request disk carried)) ≡ false
completer_keeps_none disk Empty = refl
completer_keeps_none disk (Brings bio status) = refl
completer_keeps_none disk (Carries writer closed) = closed_keeps_none writer closed closed.held.vector closed.held.bio closed.held.slip closed.parent
completer_keeps_none disk (Fails breach kept) = refl
