-- A reply by which nothing has happened: it leaves task and objects as they are, and no other reply is an event there but an ordinary take.
use Rattle.std.proofs.Common.{◌≡◌, ◌+◌, if◌then◌else◌, ℕ, Bool, true, false, List, [], ◌∷◌, Option, None, Some, inl, inr, refl, sym, ◌∙◌, ap}
use Rattle.std.proofs.lemmas.Bool.{cases_eq}
use Rattle.stack_base.specs.declared.ids.DevId.{DevId}
use Rattle.stack_base.specs.PoolId.{pool_number}
use Rattle.stack_base.specs.declared.ids.PoolId.{PoolId}
use Rattle.mempool_core.specs.Move.{PoolState, misses, after_move, missed}
use Rattle.mempool_core.specs.Position.{uses_entry}
use Rattle.bio_records.specs.declared.bio.Pad.{Pad}
use Rattle.bio_records.specs.declared.tasks.TaskLists.{TaskLists}
use Rattle.bio_records.specs.Items.{Item}
use Rattle.bio_books.specs.Books.{VectorItem, SlipItem}
use Rattle.bio_books.specs.Drops.{Closed}
use Rattle.run_machine.specs.Maps.{upd}
use Rattle.run_machine.specs.Scene.{Setup}
use Rattle.run_machine.specs.Submissions.{Takes, WantsPunt, Links, ToPush, ToCut, ToRecord, ToMaster, Doing, Rests, Drives, Copies, Breaks, Submission, submission_request, submission_answered}
use Rattle.run_machine.specs.Requests as requests
use Rattle.run_machine.specs.Requests.{Request, Reply}
use Rattle.run_machine.specs.Tasks.{TaskState, Writer, Rescuer, Completer, Keeper, Keeps, Stops, Duty, Resizes, Starts, Todo, Gathered, NoBio, HasBio, HasBoth, Empty, Brings, Carries, Fails, request, answered, with_bio, needs_vector, closed_request}
use Rattle.run_machine.specs.Objects.{Objects}
use Rattle.run_machine.proofs.Frames.{upd_same, upd_other}

-- a request that a task has, and the reserve of a pool changes where nothing of it is out
abbrev pub IsFair : Objects → Request → Type 0
IsFair objects (requests.Resize pool min) = (objects.pool (pool_number pool)).facts.out ≡ 0
IsFair objects requests.LookRound = ⊥
IsFair objects requests.LookLeft = ⊥
IsFair objects request = Unit {0}

-- nothing is found: a take that waits missed, or a look found nothing
abbrev pub IsIdle : Request → Reply → Type 0
IsIdle (requests.TakeBio set true) (requests.Missed used) = Unit {0}
IsIdle requests.TakeVec (requests.Missed used) = Unit {0}
IsIdle (requests.TakeSlip dev) (requests.Missed used) = Unit {0}
IsIdle (requests.Pop dev) requests.Nothing = Unit {0}
IsIdle (requests.Complete disk) requests.Nothing = Unit {0}
IsIdle request reply = ⊥

-- a miss that used up no entry leaves the pool as it is
pub same_pool : (objects new : Objects) (number : ℕ) → false ≡ uses_entry (objects.pool number).script (objects.pool number).facts.pos
    → new ≡ record objects { pool = upd objects.pool number (after_move (objects.pool number) (misses false)) } → new ≡ objects
same_pool objects new number none is = is ∙ ap (λ (pools : ℕ → PoolState). record objects { pool = pools }) (λ j k. stays k j)
  where
    pool : PoolState
    pool = objects.pool number

    left : missed pool ≡ pool
    left = ap (λ (b : Bool). record pool { facts = record pool.facts { pos = if b then pool.facts.pos + 1 else pool.facts.pos } }) (sym none)

    stays : (k : ℕ) → upd objects.pool number (missed pool) k ≡ objects.pool k
    stays k = elim (cases_eq k number) [
      | inl e ↦ ap (upd objects.pool number (missed pool)) e ∙ upd_same objects.pool number (missed pool) ∙ left ∙ ap objects.pool (sym e)
      | inr ne ↦ upd_other objects.pool number (missed pool) k ne
    ]

-- a task that found nothing stays as it is
module _ (setup : Setup) where
  submission_stays : (doing : Doing) (lists : TaskLists) (reply : Reply) → IsIdle (submission_request setup doing lists) reply
      → submission_answered setup doing lists reply ≡ record { doing = doing; lists = lists }
  -- at rest, or broken off: it asks nothing
  submission_stays Rests lists reply idle = absurd idle
  submission_stays (Breaks breach kept) lists reply idle = absurd idle
  -- of what a bio wants, only a take that waits, and that of a record, may find nothing
  submission_stays (Drives bio ToPush) lists reply idle = absurd idle
  submission_stays (Drives bio (ToCut (Takes true))) lists (requests.Missed used) idle = refl
  submission_stays (Drives bio (ToCut (Takes true))) lists _ idle = absurd idle
  submission_stays (Drives bio (ToCut (Takes false))) lists (requests.Missed used) idle = absurd idle
  submission_stays (Drives bio (ToCut (Takes false))) lists _ idle = absurd idle
  submission_stays (Drives bio (ToCut WantsPunt)) lists reply idle = absurd idle
  submission_stays (Drives bio (ToCut (Links hand))) lists reply idle = absurd idle
  submission_stays (Drives bio ToRecord) lists (requests.Missed used) idle = refl
  submission_stays (Drives bio ToRecord) lists _ idle = absurd idle
  submission_stays (Drives bio (ToMaster slip)) lists reply idle = absurd idle
  -- of what a leg wants, only a take that waits
  submission_stays (Copies bio master leg (Takes true)) lists (requests.Missed used) idle = refl
  submission_stays (Copies bio master leg (Takes true)) lists _ idle = absurd idle
  submission_stays (Copies bio master leg (Takes false)) lists (requests.Missed used) idle = absurd idle
  submission_stays (Copies bio master leg (Takes false)) lists _ idle = absurd idle
  submission_stays (Copies bio master leg WantsPunt) lists reply idle = absurd idle
  submission_stays (Copies bio master leg (Links hand)) lists reply idle = absurd idle

  bio_stays : (b : Bool) (number : ℕ) (todo : Todo) (later : List Todo) (bio : Item Pad) (submission : Submission) (reply : Reply) → submission.doing ≡ Rests → IsIdle (with_bio number b todo) reply
      → answered setup (Writer number (todo ∷ later) (HasBio bio) (record submission { doing = Rests })) reply ≡ Writer number (todo ∷ later) (HasBio bio) (record submission { doing = Rests })
  bio_stays true number todo later bio submission (requests.Missed used) rests idle = refl
  bio_stays true number todo later bio submission _ rests idle = absurd idle
  bio_stays false number todo later bio submission reply rests idle = absurd idle

  writer_stays : (number : ℕ) (todos : List Todo) (taken : Gathered) (doing : Doing) (lists : TaskLists) (reply : Reply)
      → IsIdle (request setup (Writer number todos taken (record { doing = doing; lists = lists }))) reply
      → answered setup (Writer number todos taken (record { doing = doing; lists = lists })) reply ≡ Writer number todos taken (record { doing = doing; lists = lists })
  -- a writer at rest, by what it has gathered
  writer_stays number [] taken Rests lists reply idle = absurd idle
  writer_stays number (todo ∷ later) NoBio Rests lists (requests.Missed used) idle = refl
  writer_stays number (todo ∷ later) NoBio Rests lists _ idle = absurd idle
  writer_stays number (todo ∷ later) (HasBio bio) Rests lists reply idle =
      bio_stays (needs_vector todo.write) number todo later bio (record { doing = Rests; lists = lists }) reply refl idle
  writer_stays number (todo ∷ later) (HasBoth bio vector) Rests lists reply idle = absurd idle
  -- one that submits
  writer_stays number todos taken (Drives bio ask) lists reply idle = ap (Writer number todos taken) (submission_stays (Drives bio ask) lists reply idle)
  writer_stays number todos taken (Copies bio master leg want) lists reply idle = ap (Writer number todos taken) (submission_stays (Copies bio master leg want) lists reply idle)
  writer_stays number todos taken (Breaks breach kept) lists reply idle = absurd idle

  rescuer_stays : (dev : DevId) (doing : Doing) (lists : TaskLists) (reply : Reply) → IsIdle (request setup (Rescuer dev (record { doing = doing; lists = lists }))) reply
      → answered setup (Rescuer dev (record { doing = doing; lists = lists })) reply ≡ Rescuer dev (record { doing = doing; lists = lists })
  -- a rescuer at rest finds nothing where its list is empty
  rescuer_stays dev Rests lists requests.Nothing idle = refl
  rescuer_stays dev Rests lists _ idle = absurd idle
  -- one that submits
  rescuer_stays dev (Drives bio ask) lists reply idle = ap (Rescuer dev) (submission_stays (Drives bio ask) lists reply idle)
  rescuer_stays dev (Copies bio master leg want) lists reply idle = ap (Rescuer dev) (submission_stays (Copies bio master leg want) lists reply idle)
  rescuer_stays dev (Breaks breach kept) lists reply idle = absurd idle

  -- what a closed node holds is given back, which finds something always
  held_moves : (writer : ℕ) (closed : Closed) (vector : Option VectorItem) (bio : Option (Item Pad)) (slip : Option SlipItem) (parent : Option ℕ) (reply : Reply)
      → IsIdle (closed_request writer closed vector bio slip parent) reply → ⊥
  held_moves writer closed (Some vector) bio slip parent reply idle = idle
  held_moves writer closed None (Some bio) slip parent reply idle = idle
  held_moves writer closed None None (Some slip) parent reply idle = idle
  held_moves writer closed None None None (Some parent) reply idle = idle
  held_moves writer closed None None None None reply idle = idle

  pub task_stays : (x : TaskState) (reply : Reply) → IsIdle (request setup x) reply → answered setup x reply ≡ x
  -- a writer and a rescuer, by what they submit
  task_stays (Writer number todos taken submission) reply idle = writer_stays number todos taken submission.doing submission.lists reply idle
  task_stays (Rescuer dev submission) reply idle = rescuer_stays dev submission.doing submission.lists reply idle
  -- a completer finds nothing only where it carries nothing
  task_stays (Completer disk Empty) requests.Nothing idle = refl
  task_stays (Completer disk Empty) _ idle = absurd idle
  task_stays (Completer disk (Brings bio status)) reply idle = absurd idle
  task_stays (Completer disk (Carries writer closed)) reply idle =
      absurd (held_moves writer closed closed.held.vector closed.held.bio closed.held.slip closed.parent reply idle)
  task_stays (Completer disk (Fails breach kept)) reply idle = absurd idle
  -- a keeper never finds nothing
  task_stays (Keeper (Keeps [])) reply idle = absurd idle
  task_stays (Keeper (Keeps (Resizes pool min later ∷ duties))) reply idle = absurd idle
  task_stays (Keeper (Keeps (Starts round later ∷ duties))) reply idle = absurd idle
  task_stays (Keeper (Stops breach)) reply idle = absurd idle

  -- what a task asks for is fair: a submission first, then what a writer asks for besides it, a rescuer, and a completer with what it carries
  fair_submission : (objects : Objects) (doing : Doing) (lists : TaskLists) → IsFair objects (submission_request setup doing lists)
  fair_submission objects Rests lists = tt
  fair_submission objects (Breaks breach kept) lists = tt
  fair_submission objects (Drives bio ToPush) lists = tt
  fair_submission objects (Drives bio (ToCut (Takes waits))) lists = tt
  fair_submission objects (Drives bio (ToCut WantsPunt)) lists = tt
  fair_submission objects (Drives bio (ToCut (Links hand))) lists = tt
  fair_submission objects (Drives bio ToRecord) lists = tt
  fair_submission objects (Drives bio (ToMaster slip)) lists = tt
  fair_submission objects (Copies bio master leg (Takes waits)) lists = tt
  fair_submission objects (Copies bio master leg WantsPunt) lists = tt
  fair_submission objects (Copies bio master leg (Links hand)) lists = tt

  fair_bio : (objects : Objects) (b : Bool) (number : ℕ) (todo : Todo) → IsFair objects (with_bio number b todo)
  fair_bio objects true number todo = tt
  fair_bio objects false number todo = tt

  fair_writer : (objects : Objects) (number : ℕ) (todos : List Todo) (taken : Gathered) (doing : Doing) (lists : TaskLists)
      → IsFair objects (request setup (Writer number todos taken (record { doing = doing; lists = lists })))
  fair_writer objects number [] taken Rests lists = tt
  fair_writer objects number (todo ∷ later) NoBio Rests lists = tt
  fair_writer objects number (todo ∷ later) (HasBio bio) Rests lists = fair_bio objects (needs_vector todo.write) number todo
  fair_writer objects number (todo ∷ later) (HasBoth bio vector) Rests lists = tt
  fair_writer objects number todos taken (Drives bio ask) lists = fair_submission objects (Drives bio ask) lists
  fair_writer objects number todos taken (Copies bio master leg want) lists = fair_submission objects (Copies bio master leg want) lists
  fair_writer objects number todos taken (Breaks breach kept) lists = tt

  fair_rescuer : (objects : Objects) (dev : DevId) (doing : Doing) (lists : TaskLists) → IsFair objects (request setup (Rescuer dev (record { doing = doing; lists = lists })))
  fair_rescuer objects dev Rests lists = tt
  fair_rescuer objects dev (Drives bio ask) lists = fair_submission objects (Drives bio ask) lists
  fair_rescuer objects dev (Copies bio master leg want) lists = fair_submission objects (Copies bio master leg want) lists
  fair_rescuer objects dev (Breaks breach kept) lists = tt

  fair_held : (objects : Objects) (writer : ℕ) (closed : Closed) (vector : Option VectorItem) (bio : Option (Item Pad)) (slip : Option SlipItem) (parent : Option ℕ)
      → IsFair objects (closed_request writer closed vector bio slip parent)
  fair_held objects writer closed (Some vector) bio slip parent = tt
  fair_held objects writer closed None (Some bio) slip parent = tt
  fair_held objects writer closed None None (Some slip) parent = tt
  fair_held objects writer closed None None None (Some parent) = tt
  fair_held objects writer closed None None None None = tt

  pub fair_task : (objects : Objects) (x : TaskState) → ((pool : PoolId) (min later : ℕ) (duties : List Duty) → x ≡ Keeper (Keeps (Resizes pool min later ∷ duties))
      → (objects.pool (pool_number pool)).facts.out ≡ 0) → IsFair objects (request setup x)
  -- a writer and a rescuer, by what they submit
  fair_task objects (Writer number todos taken submission) home = fair_writer objects number todos taken submission.doing submission.lists
  fair_task objects (Rescuer dev submission) home = fair_rescuer objects dev submission.doing submission.lists
  -- a completer, by what it carries
  fair_task objects (Completer disk Empty) home = tt
  fair_task objects (Completer disk (Brings bio status)) home = tt
  fair_task objects (Completer disk (Carries writer closed)) home = fair_held objects writer closed closed.held.vector closed.held.bio closed.held.slip closed.parent
  fair_task objects (Completer disk (Fails breach kept)) home = tt
  -- a keeper: of its duties only a pool's new reserve needs that nothing is out
  fair_task objects (Keeper (Keeps [])) home = tt
  fair_task objects (Keeper (Keeps (Resizes pool min later ∷ duties))) home = home pool min later duties refl
  fair_task objects (Keeper (Keeps (Starts round later ∷ duties))) home = tt
  fair_task objects (Keeper (Stops breach)) home = tt
