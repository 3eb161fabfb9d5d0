-- A run as the product of what it is at each object and of what each task does. It speaks of lists alone.
use Rattle.std.specs.Prelude.{◌≡◌, ◌+◌, ◌<◌, ◌≤◌, ◌==◌, ◌++◌, ℕ, Bool, true, false, IsTrue, List, [], ◌∷◌, length, filter}
use Rattle.std.specs.List.{list_any}
use Rattle.elem_ledger.specs.Ledger.{LedgerId}
use Rattle.run_machine.specs.declared.event.Event.{Event}
use Rattle.run_machine.specs.Laws.{Object}
use Rattle.run_machine.specs.Submissions.{Doing, Rests}
use Rattle.run_machine.specs.Opened.{Scenario, scene, start, setup_in}
use Rattle.run_machine.specs.Requests.{Request, Done, Resize, NextRound}
use Rattle.run_machine.specs.Runs.{State, IsRun}
use Rattle.run_machine.specs.Scene.{Setup}
use Rattle.run_machine.specs.Tasks.{Todo, Gathered, NoBio, TaskState, Writer, request, answered}
use Rattle.block_core.specs.Rounds.{round_of}
use Rattle.block_core.specs.Scenarios.{IsScenario, IsNaming}
use Rattle.shared_objects.specs.Calls.{struck}
use Rattle.run_merge.specs.Entries.{Entry, AreEvents, entries_in}
use Rattle.run_merge.specs.Machines.{LeadsObject, entries_at}
use Rattle.run_merge.specs.ObjectsByName.{object_named}

-- the entries of a task, by its place
abbrev pub entries_by : ℕ → List Entry → List Entry
entries_by place entries = filter (λ (e : Entry). place == e.place) entries

-- these entries, one after the other, lead a task on: each asks for what the task asks for next
abbrev pub EntriesLead : Setup → TaskState → List Entry → TaskState → Type 0
EntriesLead setup old [] new = new ≡ old
EntriesLead setup old (e ∷ es) new = (e.asked ≡ struck (request setup old)) × EntriesLead setup (answered setup old e.reply) es new

-- the task behind entries of its own
abbrev pub task_behind_entries : Setup → TaskState → List Entry → TaskState
task_behind_entries setup task [] = task
task_behind_entries setup task (e ∷ es) = task_behind_entries setup (answered setup task e.reply) es

-- where its own entries lead the task at a place
abbrev pub task_behind : Scenario → ℕ → List Entry → TaskState
task_behind s place mine = task_behind_entries (setup_in s) ((start s).task place) mine

-- which entries start a round, change a reserve, or end the write of this number
abbrev pub is_next_round : Request → Bool
is_next_round (NextRound round) = true
is_next_round request = false

abbrev pub changes_reserve : Request → Bool
changes_reserve (Resize pool min) = true
changes_reserve request = false

abbrev pub ends_write : ℕ → Request → Bool
ends_write write (Done other status) = other == write
ends_write write request = false

-- how many rounds have started behind the first one, with which runs begin
abbrev pub rounds_started : List Entry → ℕ
rounds_started before = length (filter (λ (e : Entry). is_next_round e.asked) before)

-- every write of the rounds before this one is done
abbrev pub AreDone : Scenario → ℕ → List Entry → Type 0
AreDone s round before =
    (write : ℕ) → write < length s.writes → round_of s.rounds write < round → IsTrue (list_any (λ (e : Entry). ends_write write e.asked) before)

-- The round has started of the write that a writer is about to begin: of which it has nothing, so that it takes its first element next, though
-- it may have missed one before.
abbrev pub RoundHasCome : List Todo → Gathered → Doing → List Entry → Type 0
RoundHasCome (todo ∷ later) NoBio Rests before = todo.round ≤ rounds_started before
RoundHasCome todo taken doing before = Unit {0}

abbrev pub MayBegin : TaskState → List Entry → Type 0
MayBegin (Writer number todo taken submission) before = RoundHasCome todo taken submission.doing before
MayBegin task before = Unit {0}

-- at each entry of a list, and all before it
abbrev pub AtEach : List Entry → (List Entry → Entry → Type 0) → Type 0
AtEach entries Holds = (before after : List Entry) (e : Entry) → entries ≡ before ++ e ∷ after → Holds before e

-- These entries are a product, which leaves these objects and tasks.
pub record IsProduct (s : Scenario) (ledger : ℕ → LedgerId) (entries : List Entry) (last : State) : Type 0 where
  -- each is an event: no look, and no refusal
  pub events : AreEvents entries
  -- those at each object are a run of its machine from the opened object
  pub objects : (name : Object) → LeadsObject ledger name (object_named (start s).objects name) (entries_at name entries) (object_named last.objects name)
  -- those of each task lead it on from the opened task, each answering what it asks for next
  pub tasks : (place : ℕ) → EntriesLead (setup_in s) ((start s).task place) (entries_by place entries) (last.task place)
  -- the first take of each write, a missed one too, stands behind the start of the write's round
  pub takes : AtEach entries (λ before e. MayBegin (task_behind s e.place (entries_by e.place before)) before)
  -- the start of each round stands behind the end of every write of the rounds before it
  pub rounds : AtEach entries (λ before e. IsTrue (is_next_round e.asked) → AreDone s (rounds_started before + 1) before)
  -- and each change of a reserve behind the end of every write of the rounds before the one that starts next
  pub resizes : AtEach entries (λ before e. IsTrue (changes_reserve e.asked) → AreDone s (rounds_started before + 1) before)

-- these are the entries of a run, which leads from the start to this state
abbrev pub AreOfRun : Scenario → (ℕ → LedgerId) → List Entry → State → Type 0
AreOfRun s ledger entries last =
    (events : List Event) × (run : IsRun (scene s ledger) (start s) events last) × (entries_in (scene s ledger) (start s) events last run ≡ entries)

-- A list of entries is that of a run exactly where it is a product.
abbrev pub RunsAreProducts : Type 0
RunsAreProducts = (s : Scenario) (ledger : ℕ → LedgerId) (entries : List Entry) (last : State) → IsScenario s → IsNaming ledger
    → (AreOfRun s ledger entries last → IsProduct s ledger entries last) × (IsProduct s ledger entries last → AreOfRun s ledger entries last)
