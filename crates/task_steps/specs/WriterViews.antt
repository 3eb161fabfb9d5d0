-- A writer outside of its submissions, without its boxes, and what its steps do there.
use Rattle.std.specs.Prelude.{◌≡◌, ℕ, Bool, true, false, IsTrue, List, [], ◌∷◌, Option, None, Some, Result, Ok, Err, drop}
use Rattle.stack_base.specs.declared.ids.SetId.TheVariants.{Fs}
use Rattle.bio_records.specs.declared.bio.Pad.{Pad}
use Rattle.bio_records.specs.Items.{Item, item_of, IsAlone}
use Rattle.bio_books.specs.Books.{VectorItem}
use Rattle.bio_books.specs.Links.{Made, NoRoom, Stray}
use Rattle.run_machine.specs.declared.event.Breach.TheVariants as breach
use Rattle.run_machine.specs.declared.event.TaskId.TheVariants as id
use Rattle.task_steps.specs.declared.objects.Objects.{Ghosts}
use Rattle.task_steps.specs.declared.step.Step.{Step}
use Rattle.task_steps.specs.declared.writer.begin.Gathered.{Gathered as RealGathered}
use Rattle.task_steps.specs.declared.writer.begin.Gathered.TheVariants as taken
use Rattle.task_steps.specs.declared.writer.begin.Attempt.{Attempt}
use Rattle.task_steps.specs.declared.writer.begin.Attempt.TheVariants as attempt
use Rattle.task_steps.specs.declared.writer.begin.Next.{Next}
use Rattle.task_steps.specs.declared.writer.begin.Next.TheVariants as next
use Rattle.run_machine.specs.Scene.{Setup}
use Rattle.run_machine.specs.Requests.{Request, Reply, Opening, Write, TakeBio, TakeVec, Link, LinkedTo, NoTicket}
use Rattle.run_machine.specs.Kept.{opening_kept}
use Rattle.run_machine.specs.Submissions.{Breaks, Submission, link_refused}
use Rattle.run_machine.specs.Tasks.{Todo, Gathered, NoBio, HasBio, HasBoth, TaskState, Writer, filled_vector, write_answered, write_request}
use Rattle.task_steps.specs.Service.{Service, Owing}
use Rattle.task_steps.specs.Turns.{step_of}
use Rattle.task_steps.specs.Routed.{Routing, routing_setup}
use Rattle.task_steps.specs.Stage.{Owes, has_book}
use Rattle.task_steps.specs.Homes.{TodoFits, GatheredIsHome}
use Rattle.task_steps.specs.Views.{vec_item}
use Rattle.task_steps.specs.Answers.{ComesTo, finds}

-- a writer: its number, the writes that it has still to begin, what it has taken for the first of them, and its submission
pub record WriterState : Type 0 where
  pub number : ℕ
  pub todo : List Todo
  pub taken : Gathered
  pub submission : Submission

abbrev pub writer_task : WriterState → TaskState
writer_task w = Writer w.number w.todo w.taken w.submission

-- this is the first of the writes that it has still to begin
abbrev pub BeginsWith : List Todo → Todo → Type 0
BeginsWith todos todo = todos ≡ todo ∷ drop 1 todos

-- what it has taken
abbrev pub gathered_of : RealGathered → Gathered
gathered_of taken.NoBio = NoBio
gathered_of (taken.HasBio bio) = HasBio (item_of bio)
gathered_of (taken.HasBoth bio vector) = HasBoth (item_of bio) (vec_item vector)

abbrev pub IsGatheredAlone : RealGathered → Type 0
IsGatheredAlone taken.NoBio = Unit {0}
IsGatheredAlone (taken.HasBio bio) = IsAlone bio
IsGatheredAlone (taken.HasBoth bio vector) = IsAlone bio

-- what an attempt at the bio of a write makes of a writer
abbrev pub tried : Attempt → ℕ → List Todo → Submission → TaskState
tried (attempt.Had bio) number todo submission = Writer number todo (HasBio (item_of bio)) submission
tried attempt.Missed number todo submission = Writer number todo NoBio submission
tried attempt.NoTicket number todo submission = Writer number todo NoBio (record submission { doing = Breaks breach.Spent [] })

abbrev pub IsAttemptAtBioAlone : Attempt → Type 0
IsAttemptAtBioAlone (attempt.Had bio) = IsAlone bio
IsAttemptAtBioAlone attempt.Missed = Unit {0}
IsAttemptAtBioAlone attempt.NoTicket = Unit {0}

-- what a step makes of a writer that was to begin a write
abbrev pub next_of : Next → ℕ → Todo → List Todo → Submission → TaskState
next_of next.Begins number todo later submission = Writer number later NoBio submission
next_of (next.Waits taken) number todo later submission = Writer number (todo ∷ later) (gathered_of taken) submission

-- the same of a writer whose first write this is
abbrev pub writer_next : Next → WriterState → Todo → TaskState
writer_next next w todo = next_of next w.number todo (drop 1 w.todo) w.submission

abbrev pub IsNextAlone : Next → Type 0
IsNextAlone next.Begins = Unit {0}
IsNextAlone (next.Waits taken) = IsGatheredAlone taken

-- a writer outside of a submission has asked the objects for this, and goes on with their reply
pub record WriteAnswers {S : Type 0} (serves : Service S) (owes : Owing) (setup : Setup) (number : ℕ)
    (asked : Request) (todo : List Todo) (taken : Gathered) (submission : Submission) (old : S) (next : TaskState) (new : S) (step : Step) : Type 0 where
  pub reply : Reply
  pub replied : serves old asked reply new
  pub owed : owes asked reply
  pub found : finds reply ≡ true
  pub goes_on : next ≡ write_answered setup number todo taken submission reply
  pub tells : step ≡ step_of setup (id.Writer number) asked reply

-- the submission of a writer that was refused the node of a write, for which this was handed over
abbrev pub refused_submission : Setup → ℕ → Opening → Submission → Reply → Option Submission
refused_submission setup number opening submission NoTicket = Some (record submission { doing = Breaks breach.Spent (opening_kept opening) })
refused_submission setup number opening submission (LinkedTo (NoRoom back)) = Some (record submission { doing = link_refused setup number 0 [] (NoRoom back) })
refused_submission setup number opening submission (LinkedTo (Stray back)) = Some (record submission { doing = link_refused setup number 0 [] (Stray back) })
refused_submission setup number opening submission reply = None

pub record IsRefusedWrite {S : Type 0} (serves : Service S) (owes : Owing) (setup : Setup) (number : ℕ)
    (opening : Opening) (submission : Submission) (old : S) (after : Submission) (new : S) (step : Step) : Type 0 where
  pub reply : Reply
  pub replied : serves old (Link number opening) reply new
  pub owed : owes (Link number opening) reply
  pub refused : refused_submission setup number opening submission reply ≡ Some after
  pub tells : step ≡ step_of setup (id.Writer number) (Link number opening) reply

-- Objects that hold together, and a writer with a book there that is to begin this write of theirs, for which it has taken this.
pub record WriteReady {S : Type 0} (words : Ghosts S) (objects : S) (number : ℕ) (todo : Todo) (taken : RealGathered) : Type 0 where
  pub held : words.holds objects
  pub book : IsTrue (has_book (words.stage objects) number)
  pub fits : TodoFits (words.stage objects) todo
  pub home : GatheredIsHome (words.stage objects) (gathered_of taken)

-- the node of a write was opened, or was not
abbrev pub WriteOpened : {S : Type 0} → Ghosts S → Routing → ℕ → Opening → Submission → S → Submission → S → Result ℕ Step → Type 0
WriteOpened words routing number opening submission old after new (Ok node) =
    words.serves old (Link number opening) (LinkedTo (Made node)) new × Owes (words.stage old) (Link number opening) (LinkedTo (Made node))
    × (after ≡ submission)
WriteOpened words routing number opening submission old after new (Err step) =
    IsRefusedWrite words.serves (Owes (words.stage old)) (routing_setup routing) number opening submission old after new step

-- the opening of the node of a write, with this vector if it has one
abbrev pub OpensWrite : {S : Type 0} → Ghosts S → Routing → ℕ → ℕ → Option VectorItem → Submission → S → Result ℕ Step → Submission → S → Type 0
OpensWrite words routing number write vector submission old made after new =
    ComesTo words old (WriteOpened words routing number (Write write vector) submission old after new made) new

-- a writer without a bio has tried to take that of its next write, whatever write that is
abbrev pub TriesBio : {S : Type 0} → Ghosts S → ℕ → S → Attempt × Step → S → Type 0
TriesBio words number old done new =
    ComesTo words old ((setup : Setup) (todo : Todo) (later : List Todo) (submission : Submission)
    → WriteAnswers words.serves (Owes (words.stage old)) setup number (TakeBio Fs true) (todo ∷ later) NoBio submission old
    (tried done.0 number (todo ∷ later) submission) new done.1) new

-- one with a bio has tried to take the vector of its next write
abbrev pub TriesVector : {S : Type 0} → Ghosts S → ℕ → Item Pad → Submission → S → RealGathered × Step → Submission → S → Type 0
TriesVector words number bio submission old done after new =
    ComesTo words old ((setup : Setup) (todo : Todo) (later : List Todo)
    → WriteAnswers words.serves (Owes (words.stage old)) setup number TakeVec (todo ∷ later) (HasBio bio) submission old
    (Writer number (todo ∷ later) (gathered_of done.0) after) new done.1) new

-- the vector of a write for which this was taken, with its segments, if it has one
abbrev pub write_vector : Todo → RealGathered → Option VectorItem
write_vector todo taken.NoBio = None
write_vector todo (taken.HasBio bio) = None
write_vector todo (taken.HasBoth bio vector) = Some (filled_vector todo (vec_item vector))

-- one that has taken this for its next write, and needs no more, has asked for the write's node
abbrev pub LinksWrite : {S : Type 0} → Ghosts S → Routing → ℕ → Todo → RealGathered → Submission → S → Next × Step → Submission → S → Type 0
LinksWrite words routing number todo taken submission old done after new =
    ComesTo words old ((later : List Todo) → WriteAnswers words.serves (Owes (words.stage old)) (routing_setup routing) number
    (Link number (Write todo.number (write_vector todo taken))) (todo ∷ later) (gathered_of taken) submission old (next_of done.0 number todo later after) new done.1) new

-- one has asked for what its next write needs, for which it has taken this
abbrev pub WriteGoesOn : {S : Type 0} → Ghosts S → Routing → ℕ → Todo → Gathered → Submission → S → Next × Step → Submission → S → Type 0
WriteGoesOn words routing number todo taken submission old done after new =
    ComesTo words old ((later : List Todo) → WriteAnswers words.serves (Owes (words.stage old)) (routing_setup routing) number
    (write_request number (todo ∷ later) taken) (todo ∷ later) taken submission old (next_of done.0 number todo later after) new done.1) new

-- whether it has taken a bio
abbrev pub is_taken : Gathered → Bool
is_taken NoBio = false
is_taken (HasBio bio) = true
is_taken (HasBoth bio vector) = true
