-- What a step of a submission does: the task's half of an event, with the reply that the objects gave.
use Rattle.std.specs.Prelude.{◌≡◌, ◌-◌, ◌^◌, min, ℕ, Bool, true, false, List, length, map, Option, None, Some, Result, Ok, Err}
use Rattle.stack_base.specs.declared.ids.DevId.{DevId}
use Rattle.stack_base.specs.declared.ids.SetId.TheVariants.{Of}
use Rattle.bio_records.specs.declared.bio.Pad.{Pad}
use Rattle.bio_records.specs.declared.tasks.TaskLists.{TaskLists}
use Rattle.bio_records.specs.Items.{Item}
use Rattle.bio_lists.specs.Punt.{punted, unpunted}
use Rattle.bio_books.specs.Links.{Made, NoRoom, Stray}
use Rattle.run_machine.specs.declared.event.Breach.{Breach}
use Rattle.run_machine.specs.declared.event.Breach.TheVariants as breach
use Rattle.run_machine.specs.declared.event.TaskId.{TaskId}
use Rattle.run_machine.specs.declared.event.What.TheVariants as what
use Rattle.task_steps.specs.declared.submission.Doing.{Doing as RealDoing}
use Rattle.task_steps.specs.declared.submission.HandedBack.{HandedBack}
use Rattle.task_steps.specs.declared.submission.Want.{Want as RealWant}
use Rattle.task_steps.specs.declared.objects.Objects.{Ghosts}
use Rattle.task_steps.specs.declared.objects.Unmade.{Unmade}
use Rattle.task_steps.specs.declared.objects.Unmade.TheVariants as unmade
use Rattle.task_steps.specs.declared.step.Step.{Step}
use Rattle.task_steps.specs.declared.step.Step.TheVariants.{Stepped}
use Rattle.run_machine.specs.Scene.{Setup}
use Rattle.run_machine.specs.Requests.{Request, Reply, Opening, TakeBio, Punt, Link, HadBio, Missed, Did, LinkedTo, Nothing, NoTicket}
use Rattle.run_machine.specs.Submissions.{Want, Links, Driving, Doing, Drives, Submission, asks_at, submission_request, after_miss, submission_answered}
use Rattle.task_steps.specs.Service.{Service, Owing}
use Rattle.task_steps.specs.Turns.{named_node, step_of}
use Rattle.run_machine.specs.Kept.{Kept, KeptBio, holding_kept, opening_kept}
use Rattle.task_steps.specs.SubmissionViews.{submission_of, want_of, unmade_kept, back_kept}
use Rattle.task_steps.specs.Routed.{Routing, routed_tree, routing_setup}
use Rattle.task_steps.specs.Stage.{RequestFits, Owes}

-- a reply that is no look which found nothing
abbrev pub finds : Reply → Bool
finds Nothing = false
finds reply = true

-- The objects were asked for what the submission asks for, it goes on with their reply, for which they owe what they do, and the step tells it.
pub record AnswersSubmission {S : Type 0} (serves : Service S) (owes : Owing) (setup : Setup) (task : TaskId)
    (doing : Doing) (lists : TaskLists) (old : S) (next : Submission) (new : S) (step : Step) : Type 0 where
  pub reply : Reply
  pub replied : serves old (submission_request setup doing lists) reply new
  pub owed : owes (submission_request setup doing lists) reply
  pub found : finds reply ≡ true
  pub goes_on : next ≡ submission_answered setup doing lists reply
  pub tells : step ≡ step_of setup task (submission_request setup doing lists) reply

-- objects that hold together, and may be asked this
abbrev pub Ready : {S : Type 0} → Ghosts S → S → Request → Type 0
Ready words objects request = words.holds objects × RequestFits (words.stage objects) request

-- the same of what a submission asks for
abbrev pub SubmissionReady : {S : Type 0} → Ghosts S → S → Routing → Doing → TaskLists → Type 0
SubmissionReady words objects routing doing lists = Ready words objects (submission_request (routing_setup routing) doing lists)

-- what the driver of a device asks for first, whatever bio it has
abbrev pub AsksFirst : Routing → TaskLists → DevId → Driving → Type 0
AsksFirst routing lists dev ask =
    (item : Item Pad) → item.bio.dev ≡ dev → asks_at (routing_setup routing) lists item (routed_tree routing dev) ≡ Drives item ask

-- What was done with these objects came to this. They hold together behind it too, and there are the same of them.
pub record ComesTo {S : Type 0} (words : Ghosts S) (old : S) (outcome : Type 0) (new : S) : Type 0 where
  pub came : outcome
  pub held : words.holds new
  pub same : words.stage new ≡ words.stage old

-- a step of a submission over these objects
abbrev pub SubmissionDoes : {S : Type 0} → Ghosts S → Routing → TaskId → Submission → S → Submission → S → Step → Type 0
SubmissionDoes words routing task submission old next new step =
    ComesTo words old (AnswersSubmission words.serves (Owes (words.stage old)) (routing_setup routing) task submission.doing submission.lists old next new step) new

-- and one that does so whatever is known of the devices
abbrev pub SubmissionAlwaysDoes : {S : Type 0} → Ghosts S → TaskId → Submission → S → Submission → S → Step → Type 0
SubmissionAlwaysDoes words task submission old next new step = (routing : Routing) → SubmissionDoes words routing task submission old next new step

-- the same of what was done and of the lists behind it
abbrev pub Does : {S : Type 0} → Ghosts S → Routing → TaskId → Doing → TaskLists → S → RealDoing × Step → TaskLists → S → Type 0
Does words routing task doing lists old done after new =
    SubmissionDoes words routing task (record { doing = doing; lists = lists }) old (submission_of done.0 after) new done.1

-- what is wanted behind an attempt at a bio: what was had is linked, and a miss is followed by what follows it
abbrev pub WantsOn : Bool → Reply → Want → Type 0
WantsOn waits (HadBio got hand) want = want ≡ Links hand
WantsOn waits (Missed used) want = want ≡ after_miss waits
WantsOn waits reply want = ⊥

pub record Attempts {S : Type 0} (serves : Service S) (owes : Owing) (task : TaskId) (dev : DevId)
    (waits : Bool) (old : S) (want : Want) (new : S) (step : Step) : Type 0 where
  pub reply : Reply
  pub replied : serves old (TakeBio (Of dev) waits) reply new
  pub owed : owes (TakeBio (Of dev) waits) reply
  pub wants : WantsOn waits reply want
  pub tells : (setup : Setup) → step ≡ step_of setup task (TakeBio (Of dev) waits) reply

-- there was no ticket for a call
abbrev pub IsSpent : {S : Type 0} → Service S → Owing → Request → S → S → Type 0
IsSpent serves owes asked old new = serves old asked NoTicket new × owes asked NoTicket

-- what came of an attempt at a bio of a device's set
abbrev pub Attempted : {S : Type 0} → Ghosts S → TaskId → DevId → Bool → S → S → Result (RealWant × Step) Unmade → Type 0
Attempted words task dev waits old new (Ok made) = Attempts words.serves (Owes (words.stage old)) task dev waits old (want_of made.0) new made.1
Attempted words task dev waits old new (Err back) =
    IsSpent words.serves (Owes (words.stage old)) (TakeBio (Of dev) waits) old new × (back ≡ unmade.Nothing)

-- an attempt at such a bio
abbrev pub AttemptDoes : {S : Type 0} → Ghosts S → TaskId → DevId → Bool → S → Result (RealWant × Step) Unmade → S → Type 0
AttemptDoes words task dev waits old made new = ComesTo words old (Attempted words task dev waits old new made) new

-- the request that hands all bios of a device's set in these lists to its rescuer
abbrev pub punt_request : DevId → TaskLists → Request
punt_request dev lists = Punt dev (punted (Of dev) lists)

-- the bios of a device's set went from these lists to its rescuer, or came back
abbrev pub PuntedAll : {S : Type 0} → Ghosts S → TaskId → DevId → TaskLists → S → TaskLists → S → Result Step Unmade → Type 0
PuntedAll words task dev lists old after new (Ok step) =
    words.serves old (punt_request dev lists) Did new × Owes (words.stage old) (punt_request dev lists) Did × (after ≡ unpunted (Of dev) lists)
    × (step ≡ Stepped (record { task = task; what = what.Punt dev (min (length (punted (Of dev) lists)) (2 ^ 64 - 1)) }))
PuntedAll words task dev lists old after new (Err back) =
    IsSpent words.serves (Owes (words.stage old)) (punt_request dev lists) old new × (after ≡ unpunted (Of dev) lists) × (unmade_kept back ≡ map KeptBio (punted (Of dev) lists))

-- a punt of these bios
abbrev pub PuntDoes : {S : Type 0} → Ghosts S → TaskId → DevId → TaskLists → S → Result Step Unmade → TaskLists → S → Type 0
PuntDoes words task dev lists old done after new = ComesTo words old (PuntedAll words task dev lists old after new done) new

-- why no node was opened, where none was
abbrev pub link_breach : Setup → ℕ → Opening → Reply → Option Breach
link_breach setup writer opening NoTicket = Some breach.Spent
link_breach setup writer opening (LinkedTo (NoRoom back)) = Some (breach.NoRoom writer (setup.places writer))
link_breach setup writer opening (LinkedTo (Stray back)) = Some (breach.Stray writer (named_node opening))
link_breach setup writer opening reply = None

-- what comes back of what was handed over for a node that was not opened
abbrev pub came_back : Opening → Reply → List Kept
came_back opening (LinkedTo (NoRoom back)) = holding_kept back
came_back opening (LinkedTo (Stray back)) = holding_kept back
came_back opening reply = opening_kept opening

pub record IsRefused {S : Type 0} (serves : Service S) (owes : Owing) (setup : Setup) (writer : ℕ)
    (opening : Opening) (old : S) (breach : Breach) (handed : HandedBack) (new : S) : Type 0 where
  pub reply : Reply
  pub replied : serves old (Link writer opening) reply new
  pub owed : owes (Link writer opening) reply
  pub refused : link_breach setup writer opening reply ≡ Some breach
  pub back : back_kept handed ≡ came_back opening reply

-- a node was opened, or was not
abbrev pub NodeOpened : {S : Type 0} → Ghosts S → Routing → ℕ → Opening → S → S → Result ℕ (Breach × HandedBack) → Type 0
NodeOpened words routing writer opening old new (Ok node) =
    words.serves old (Link writer opening) (LinkedTo (Made node)) new × Owes (words.stage old) (Link writer opening) (LinkedTo (Made node))
NodeOpened words routing writer opening old new (Err refused) =
    IsRefused words.serves (Owes (words.stage old)) (routing_setup routing) writer opening old refused.0 refused.1 new

-- the opening of a node
abbrev pub OpeningDoes : {S : Type 0} → Ghosts S → Routing → ℕ → Opening → S → Result ℕ (Breach × HandedBack) → S → Type 0
OpeningDoes words routing writer opening old made new = ComesTo words old (NodeOpened words routing writer opening old new made) new
