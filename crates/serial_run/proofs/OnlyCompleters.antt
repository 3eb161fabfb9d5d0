-- Only completers complete bios, and the round that a keeper asks for is there.
use Rattle.std.proofs.Common.{◌≡◌, ◌+◌, ◌<◌, ℕ, Bool, true, false, true≢false, List, [], ◌∷◌, length, Option, None, Some, refl, sym, ap, ◌∙◌}
use Rattle.stack_base.specs.declared.ids.DevId.{DevId}
use Rattle.stack_base.specs.declared.ids.PoolId.{PoolId}
use Rattle.bio_books.specs.Drops as end
use Rattle.bio_books.specs.Links.{Made, NoRoom, Stray}
use Rattle.bio_records.specs.declared.tasks.TaskLists.{TaskLists}
use Rattle.run_machine.specs.declared.event.What.{What}
use Rattle.run_machine.specs.declared.event.What.TheVariants as what
use Rattle.run_machine.specs.Events.{what_of, resize_of}
use Rattle.run_machine.specs.Submissions.{Doing, Rests, Drives, Copies, Breaks, Takes, WantsPunt, Links, ToPush, ToCut, ToRecord, ToMaster, Submission, submission_request}
use Rattle.run_machine.specs.Objects.{Objects}
use Rattle.task_core.specs.PlainSteps.{HasRound}
use Rattle.run_machine.specs.Requests.{Request, Reply}
use Rattle.run_machine.specs.Requests as requests
use Rattle.run_machine.specs.Scene.{Setup}
use Rattle.run_machine.specs.Tasks.{TaskState, Writer, Rescuer, Completer, Keeper, Keeps, Stops, Duty, Resizes, Starts, Todo, Gathered, NoBio, HasBio, HasBoth, Empty, Brings, Carries, Fails, request, closed_request, needs_vector, with_bio, writer_request, rescuer_request}

abbrev pub is_complete : What → Bool
is_complete (what.Complete disk index status) = true
is_complete what = false

abbrev pub told_complete : Option What → Bool
told_complete None = false
told_complete (Some what) = is_complete what

abbrev pub completes : Request → Bool
completes (requests.Complete disk) = true
completes request = false

abbrev pub IsNoCompleter : TaskState → Type 0
IsNoCompleter (Writer number todo taken submission) = Unit {0}
IsNoCompleter (Rescuer dev submission) = Unit {0}
IsNoCompleter (Completer disk carried) = ⊥
IsNoCompleter (Keeper keeping) = Unit {0}

-- what is told of any other request is no completion
resized : (b : Bool) (pool : PoolId) (min : ℕ) → told_complete (resize_of b pool min) ≡ false
resized true pool min = refl
resized false pool min = refl

told_other : (asked : Request) (reply : Reply) → completes asked ≡ false → told_complete (what_of asked reply) ≡ false
-- takes
told_other (requests.TakeBio set true) (requests.HadBio got bio) others = refl
told_other (requests.TakeBio set false) (requests.HadBio got bio) others = refl
told_other (requests.TakeBio set true) (requests.Missed true) others = refl
told_other (requests.TakeBio set true) (requests.Missed false) others = refl
told_other (requests.TakeBio set false) (requests.Missed used) others = refl
told_other requests.TakeVec (requests.HadVec got vector) others = refl
told_other requests.TakeVec (requests.Missed true) others = refl
told_other requests.TakeVec (requests.Missed false) others = refl
told_other (requests.TakeSlip dev) (requests.HadSlip got slip) others = refl
told_other (requests.TakeSlip dev) (requests.Missed true) others = refl
told_other (requests.TakeSlip dev) (requests.Missed false) others = refl
-- gives
told_other (requests.GiveBio bio) requests.Did others = refl
told_other (requests.GiveVec vector) requests.Did others = refl
told_other (requests.GiveSlip slip) requests.Did others = refl
-- lists of rescuers
told_other (requests.Punt dev moved) requests.Did others = refl
told_other (requests.Pop dev) (requests.Popped bio) others = refl
-- disks: a completion is the one request that is left out
told_other (requests.Push bio) requests.Did others = refl
told_other (requests.Complete disk) reply others = absurd (true≢false others)
-- books
told_other (requests.Link writer opening) (requests.LinkedTo (Made node)) others = refl
told_other (requests.Link writer opening) (requests.LinkedTo (NoRoom back)) others = refl
told_other (requests.Link writer opening) (requests.LinkedTo (Stray back)) others = refl
told_other (requests.Drop writer node status part) (requests.DroppedTo end.Left) others = refl
told_other (requests.Drop writer node status part) (requests.DroppedTo (end.Up closed)) others = refl
told_other (requests.Drop writer node status part) (requests.DroppedTo (end.Top closed)) others = refl
told_other (requests.Drop writer node status part) (requests.DroppedTo (end.Stray back)) others = refl
-- the tally, and reserves
told_other (requests.Done write status) requests.Did others = refl
told_other (requests.Resize pool min) (requests.OutIs out) others = resized _ pool min
told_other (requests.NextRound round) requests.Did others = refl
-- nothing else is an event
told_other asked reply others = refl

-- neither the end of a bio nor the start of a round
abbrev pub is_other : Request → Bool
is_other (requests.Complete disk) = false
is_other (requests.NextRound round) = false
is_other request = true

other_completes : (asked : Request) → is_other asked ≡ true → completes asked ≡ false
other_completes (requests.Complete disk) other = absurd (true≢false (sym other))
other_completes asked other = refl

other_has_round : (objects : Objects) (asked : Request) → is_other asked ≡ true → HasRound objects asked
other_has_round objects (requests.NextRound round) other = absurd (true≢false (sym other))
other_has_round objects asked other = tt

module _ (setup : Setup) where
  -- writers and rescuers ask for nothing else
  submission_asks : (doing : Doing) (lists : TaskLists) → is_other (submission_request setup doing lists) ≡ true
  -- one that rests or broke off
  submission_asks Rests lists = refl
  submission_asks (Breaks breach kept) lists = refl
  -- a bio that is driven
  submission_asks (Drives bio ToPush) lists = refl
  submission_asks (Drives bio (ToCut (Takes waits))) lists = refl
  submission_asks (Drives bio (ToCut WantsPunt)) lists = refl
  submission_asks (Drives bio (ToCut (Links hand))) lists = refl
  submission_asks (Drives bio ToRecord) lists = refl
  submission_asks (Drives bio (ToMaster slip)) lists = refl
  -- copies for the legs of a mirror
  submission_asks (Copies bio master leg (Takes waits)) lists = refl
  submission_asks (Copies bio master leg WantsPunt) lists = refl
  submission_asks (Copies bio master leg (Links hand)) lists = refl

  bio_asks : (b : Bool) (writer : ℕ) (todo : Todo) → is_other (with_bio writer b todo) ≡ true
  bio_asks true writer todo = refl
  bio_asks false writer todo = refl

  writer_asks : (writer : ℕ) (todos : List Todo) (taken : Gathered) (doing : Doing) (submission : Submission)
      → is_other (writer_request setup writer todos taken doing submission) ≡ true
  -- at rest: its next write, if there is one, takes what it needs and opens its top node
  writer_asks writer [] taken Rests submission = refl
  writer_asks writer (todo ∷ later) NoBio Rests submission = refl
  writer_asks writer (todo ∷ later) (HasBio bio) Rests submission = bio_asks (needs_vector todo.write) writer todo
  writer_asks writer (todo ∷ later) (HasBoth bio vector) Rests submission = refl
  -- at work: what its submission asks for
  writer_asks writer todos taken (Drives bio ask) submission = submission_asks (Drives bio ask) submission.lists
  writer_asks writer todos taken (Copies bio master leg want) submission = submission_asks (Copies bio master leg want) submission.lists
  writer_asks writer todos taken (Breaks breach kept) submission = refl

  rescuer_asks : (dev : DevId) (doing : Doing) (submission : Submission) → is_other (rescuer_request setup dev doing submission) ≡ true
  -- at rest: a pop
  rescuer_asks dev Rests submission = refl
  -- at work: what its submission asks for
  rescuer_asks dev (Drives bio ask) submission = submission_asks (Drives bio ask) submission.lists
  rescuer_asks dev (Copies bio master leg want) submission = submission_asks (Copies bio master leg want) submission.lists
  rescuer_asks dev (Breaks breach kept) submission = refl

  asks_other : (task : TaskState) → IsNoCompleter task → completes (request setup task) ≡ false
  -- writers and rescuers
  asks_other (Writer number todos taken submission) none =
      other_completes (writer_request setup number todos taken submission.doing submission) (writer_asks number todos taken submission.doing submission)
  asks_other (Rescuer dev submission) none = other_completes (rescuer_request setup dev submission.doing submission) (rescuer_asks dev submission.doing submission)
  -- completers are left out
  asks_other (Completer disk carried) none = absurd none
  -- the keeper
  asks_other (Keeper (Keeps [])) none = refl
  asks_other (Keeper (Keeps (Resizes pool min later ∷ duties))) none = refl
  asks_other (Keeper (Keeps (Starts round later ∷ duties))) none = refl
  asks_other (Keeper (Stops breach)) none = refl

  -- so no other task tells of a completion
  pub none_completed : (task : TaskState) (reply : Reply) (told : What) → IsNoCompleter task → what_of (request setup task) reply ≡ Some told → is_complete told ≡ false
  none_completed task reply told none is = sym (ap told_complete is) ∙ told_other (request setup task) reply (asks_other task none)

  -- a request for a round is that of a keeper
  pub has_round : (objects : Objects) (task : TaskState)
      → ((round later : ℕ) (duties : List Duty) → task ≡ Keeper (Keeps (Starts round later ∷ duties)) → objects.tally.round + 1 < length objects.tally.left)
      → HasRound objects (request setup task)
  -- writers and rescuers
  has_round objects (Writer number todos taken submission) ahead =
      other_has_round objects (writer_request setup number todos taken submission.doing submission) (writer_asks number todos taken submission.doing submission)
  has_round objects (Rescuer dev submission) ahead = other_has_round objects (rescuer_request setup dev submission.doing submission) (rescuer_asks dev submission.doing submission)
  -- completers
  has_round objects (Completer disk Empty) ahead = tt
  has_round objects (Completer disk (Brings bio status)) ahead = tt
  has_round objects (Completer disk (Carries writer closed)) ahead = by_held closed.held.vector closed.held.bio closed.held.slip closed.parent
    where
      by_held : (vector : Option _) (bio : Option _) (slip : Option _) (parent : Option ℕ) → HasRound objects (closed_request writer closed vector bio slip parent)
      by_held (Some vector) bio slip parent = tt
      by_held None (Some bio) slip parent = tt
      by_held None None (Some slip) parent = tt
      by_held None None None (Some parent) = tt
      by_held None None None None = tt
  has_round objects (Completer disk (Fails breach kept)) ahead = tt
  -- the keeper
  has_round objects (Keeper (Keeps [])) ahead = tt
  has_round objects (Keeper (Keeps (Resizes pool min later ∷ duties))) ahead = tt
  has_round objects (Keeper (Keeps (Starts round later ∷ duties))) ahead = ahead round later duties refl
  has_round objects (Keeper (Stops breach)) ahead = tt
