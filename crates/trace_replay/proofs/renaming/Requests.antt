-- A task with its nodes at other places looks at the same, and asks for the same at these places.
use Rattle.std.proofs.Common.{◌≡◌, ℕ, Bool, true, false, List, [], ◌∷◌, Option, None, Some, refl, ap}
use Rattle.std.specs.Option.{option_map}
use Rattle.stack_base.specs.declared.ids.DevId.{DevId}
use Rattle.bio_records.specs.declared.bio.Pad.{Pad}
use Rattle.bio_records.specs.declared.tasks.TaskLists.{TaskLists}
use Rattle.bio_records.specs.Items.{Item}
use Rattle.bio_books.specs.Books.{VectorItem, SlipItem}
use Rattle.bio_books.specs.Drops.{Closed}
use Rattle.run_machine.specs.Scene.{Setup}
use Rattle.run_machine.specs.Submissions.{Takes, WantsPunt, Links, ToPush, ToCut, ToRecord, ToMaster, Doing, Rests, Drives, Copies, Breaks, Submission, submission_request}
use Rattle.run_machine.specs.Tasks.{Todo, Gathered, NoBio, HasBio, HasBoth, Carried, Empty, Brings, Carries, Fails, TaskState, Writer, Rescuer, Completer, Keeper, Keeps, Stops, Resizes, Starts, needs_vector, with_bio, write_request, writer_request, rescuer_request, closed_request, carried_request, keeper_request, Keeping, request, look_of, writer_look}
use Rattle.run_machine.specs.Requests.{Punt}
use Rattle.trace_replay.proofs.renaming.Renaming.{Places, item_with, vector_to, slip_to, taken_to, lists_to, doing_to, submission_to, closed_to, carried_to, task_to, request_to}
use Rattle.trace_replay.proofs.renaming.Lists.{punted_to}

module _ (setup : Setup) (to : Places) (gone : ℕ) where
  submission_asks : (doing : Doing) (lists : TaskLists) → submission_request setup (doing_to to gone doing) (lists_to to lists) ≡ request_to to gone (submission_request setup doing lists)
  submission_asks Rests lists = refl
  submission_asks (Breaks breach kept) lists = refl
  submission_asks (Drives bio ToPush) lists = refl
  submission_asks (Drives bio (ToCut (Takes waits))) lists = refl
  submission_asks (Drives bio (ToCut WantsPunt)) lists = ap (Punt bio.bio.dev) (punted_to to bio.bio.dev lists)
  submission_asks (Drives bio (ToCut (Links hand))) lists = refl
  submission_asks (Drives bio ToRecord) lists = refl
  submission_asks (Drives bio (ToMaster slip)) lists = refl
  submission_asks (Copies bio master leg (Takes waits)) lists = refl
  submission_asks (Copies bio master leg WantsPunt) lists = ap (Punt bio.dev) (punted_to to bio.dev lists)
  submission_asks (Copies bio master leg (Links hand)) lists = refl

  bio_asks : (writer : ℕ) (todo : Todo) (long : Bool) → with_bio writer long todo ≡ request_to to gone (with_bio writer long todo)
  bio_asks writer todo true = refl
  bio_asks writer todo false = refl

  write_asks : (writer : ℕ) (todo : List Todo) (taken : Gathered) → write_request writer todo (taken_to taken) ≡ request_to to gone (write_request writer todo taken)
  write_asks writer [] taken = refl
  write_asks writer (todo ∷ later) NoBio = refl
  write_asks writer (todo ∷ later) (HasBio bio) = bio_asks writer todo (needs_vector todo.write)
  write_asks writer (todo ∷ later) (HasBoth bio vector) = refl

  writer_asks : (writer : ℕ) (todo : List Todo) (taken : Gathered) (doing : Doing) (submission : Submission)
      → writer_request setup writer todo (taken_to taken) (doing_to to gone doing) (submission_to to gone submission) ≡ request_to to gone (writer_request setup writer todo taken doing submission)
  writer_asks writer todo taken Rests submission = write_asks writer todo taken
  writer_asks writer todo taken (Drives bio ask) submission = submission_asks (Drives bio ask) submission.lists
  writer_asks writer todo taken (Copies bio master leg want) submission = submission_asks (Copies bio master leg want) submission.lists
  writer_asks writer todo taken (Breaks breach kept) submission = refl

  rescuer_asks : (dev : DevId) (doing : Doing) (submission : Submission)
      → rescuer_request setup dev (doing_to to gone doing) (submission_to to gone submission) ≡ request_to to gone (rescuer_request setup dev doing submission)
  rescuer_asks dev Rests submission = refl
  rescuer_asks dev (Drives bio ask) submission = submission_asks (Drives bio ask) submission.lists
  rescuer_asks dev (Copies bio master leg want) submission = submission_asks (Copies bio master leg want) submission.lists
  rescuer_asks dev (Breaks breach kept) submission = refl

  closed_asks : (writer : ℕ) (closed : Closed) (vector : Option VectorItem) (bio : Option (Item Pad)) (slip : Option SlipItem) (parent : Option ℕ)
      → closed_request writer (closed_to (to writer) gone closed) (option_map vector_to vector) (option_map (item_with gone) bio) (option_map slip_to slip) (option_map (to writer) parent)
      ≡ request_to to gone (closed_request writer closed vector bio slip parent)
  closed_asks writer closed (Some vector) bio slip parent = refl
  closed_asks writer closed None (Some bio) slip parent = refl
  closed_asks writer closed None None (Some slip) parent = refl
  closed_asks writer closed None None None (Some parent) = refl
  closed_asks writer closed None None None None = refl

  carried_asks : (disk : DevId) (carried : Carried) → carried_request disk (carried_to to gone carried) ≡ request_to to gone (carried_request disk carried)
  carried_asks disk Empty = refl
  carried_asks disk (Brings bio status) = refl
  carried_asks disk (Carries writer closed) = closed_asks writer closed closed.held.vector closed.held.bio closed.held.slip closed.parent
  carried_asks disk (Fails breach kept) = refl

  keeper_asks : (keeping : Keeping) → keeper_request keeping ≡ request_to to gone (keeper_request keeping)
  keeper_asks (Keeps []) = refl
  keeper_asks (Keeps (Resizes pool min later ∷ duties)) = refl
  keeper_asks (Keeps (Starts round later ∷ duties)) = refl
  keeper_asks (Stops breach) = refl

  pub asks : (x : TaskState) → request setup (task_to to gone x) ≡ request_to to gone (request setup x)
  asks (Writer number todo taken submission) = writer_asks number todo taken submission.doing submission
  asks (Rescuer dev submission) = rescuer_asks dev submission.doing submission
  asks (Completer disk carried) = carried_asks disk carried
  asks (Keeper keeping) = keeper_asks keeping

  look_by : (todo : List Todo) (taken : Gathered) (doing : Doing) → writer_look todo (taken_to taken) (doing_to to gone doing) ≡ writer_look todo taken doing
  look_by [] taken doing = refl
  look_by (todo ∷ later) NoBio Rests = refl
  look_by (todo ∷ later) NoBio (Drives bio ask) = refl
  look_by (todo ∷ later) NoBio (Copies bio master leg want) = refl
  look_by (todo ∷ later) NoBio (Breaks breach kept) = refl
  look_by (todo ∷ later) (HasBio bio) doing = refl
  look_by (todo ∷ later) (HasBoth bio vector) doing = refl

  pub looks : (x : TaskState) → look_of (task_to to gone x) ≡ look_of x
  looks (Writer number todo taken submission) = look_by todo taken submission.doing
  looks (Rescuer dev submission) = refl
  looks (Completer disk carried) = refl
  looks (Keeper keeping) = refl
