-- Histories of objects with tickets, and the merge of them: all their entries in the order of the tickets.
use Rattle.std.specs.Prelude.{◌≡◌, ◌<◌, ◌==◌, ◌++◌, if◌then◌else◌, nat_lt, ℕ, false, IsTrue, List, [], ◌∷◌, All, map, filter, Option, None, Some}
use Rattle.elem_ledger.specs.Ledger.{LedgerId}
use Rattle.run_machine.specs.Laws.{Object, OfTally, object_of}
use Rattle.run_machine.specs.Objects.{TallyState}
use Rattle.run_machine.specs.Opened.{Scenario, start, setup_in}
use Rattle.run_machine.specs.Requests.{Request, Reply}
use Rattle.run_machine.specs.Runs.{State}
use Rattle.run_machine.specs.Tasks.{TaskState, look_of, lets}
use Rattle.block_core.specs.Scenarios.{IsScenario, IsNaming}
use Rattle.shared_objects.specs.Calls.{is_same_object}
use Rattle.shared_objects.specs.Logs.{is_event}
use Rattle.run_merge.specs.Entries.{Entry}
use Rattle.run_merge.specs.Machines.{TallyMachine, LeadsObject}
use Rattle.run_merge.specs.ObjectsByName.{object_named}
use Rattle.run_merge.specs.Products.{EntriesLead, task_behind, AreOfRun}

-- an entry with the ticket that its call drew
pub record Ticketed : Type 0 where
  pub entry : Entry
  pub ticket : ℕ

abbrev pub without_tickets : List Ticketed → List Entry
without_tickets ns = map (λ (n : Ticketed). n.entry) ns

-- each ticket is greater than `last` and than the one before
abbrev pub RiseFrom : ℕ → List Ticketed → Type 0
RiseFrom last [] = Unit {0}
RiseFrom last (n ∷ ns) = (last < n.ticket) × RiseFrom n.ticket ns

-- in the order of tickets, where each is put before the first that has no smaller one
abbrev pub insert : Ticketed → List Ticketed → List Ticketed
insert n [] = n ∷ []
insert n (x ∷ xs) = if nat_lt x.ticket n.ticket then x ∷ insert n xs else n ∷ x ∷ xs

abbrev pub sorted_by_ticket : List Ticketed → List Ticketed
sorted_by_ticket [] = []
sorted_by_ticket (n ∷ ns) = insert n (sorted_by_ticket ns)

-- the histories of objects, by their names
abbrev pub Histories : Type 0
Histories = List (Object × List Ticketed)

abbrev pub all_of : Histories → List Ticketed
all_of [] = []
all_of (h ∷ hs) = h.1 ++ all_of hs

abbrev pub history_of : Object → Histories → List Ticketed
history_of name [] = []
history_of name (h ∷ hs) = if is_same_object name h.0 then h.1 else history_of name hs

-- no two are of one object
abbrev pub AreOfDifferentObjects : Histories → Type 0
AreOfDifferentObjects [] = Unit {0}
AreOfDifferentObjects (h ∷ hs) = All (λ (other : Object × List Ticketed). is_same_object h.0 other.0 ≡ false) hs × AreOfDifferentObjects hs

-- the entries of each are at its object
abbrev pub AreTagged : Histories → Type 0
AreTagged [] = Unit {0}
AreTagged (h ∷ hs) = All (λ (n : Ticketed). object_of n.entry.asked ≡ h.0) h.1 × AreTagged hs

-- what a task did, in the order of its tickets
abbrev pub done_by : ℕ → Histories → List Ticketed
done_by place histories = sorted_by_ticket (filter (λ (n : Ticketed). place == n.entry.place) (all_of histories))

-- the tally as it was behind the first entries of its history
pub record TallyThen (s : Scenario) (ledger : ℕ → LedgerId) (tally : List Ticketed) : Type 0 where
  pub seen : List Ticketed
  pub later : List Ticketed
  pub history : tally ≡ seen ++ later
  pub shown : TallyState
  pub leads : LeadsObject ledger OfTally (start s).objects.tally (without_tickets seen) shown

-- What a task looks at lets it ask: so the tally replied as it was behind entries with smaller tickets than the one that the task then drew.
abbrev pub LetsAsk : Scenario → (ℕ → LedgerId) → List Ticketed → ℕ → TaskState → Option Request → Type 0
LetsAsk s ledger tally ticket task None = Unit {0}
LetsAsk s ledger tally ticket task (Some look) =
    (was : TallyThen s ledger tally) × All (λ (n : Ticketed). n.ticket < ticket) was.seen
    × (reply : Reply) × TallyMachine was.shown look reply was.shown × IsTrue (lets task reply)

-- What histories show of a run, with the objects and tasks that they leave.
pub record Shown (s : Scenario) (ledger : ℕ → LedgerId) (histories : Histories) (last : State) : Type 0 where
  pub events : All (λ (n : Ticketed). IsTrue (is_event n.entry.asked n.entry.reply)) (all_of histories)
  pub apart : AreOfDifferentObjects histories
  pub tagged : AreTagged histories
  -- tickets rise along each object, and its entries are a run of its machine
  pub rises : (name : Object) → RiseFrom 0 (history_of name histories)
  pub objects : (name : Object) → LeadsObject ledger name (object_named (start s).objects name) (without_tickets (history_of name histories)) (object_named last.objects name)
  -- what each task did, in the order of its tickets, leads it on
  pub tasks : (place : ℕ) → EntriesLead (setup_in s) ((start s).task place) (without_tickets (done_by place histories)) (last.task place)
  -- and each looked before it asked, where it has to
  pub looks : (place : ℕ) (mine rest : List Ticketed) (n : Ticketed) → done_by place histories ≡ mine ++ n ∷ rest
      → let task = task_behind s place (without_tickets mine) in LetsAsk s ledger (history_of OfTally histories) n.ticket task (look_of task)

-- The merge of them is the entries of a run, which leaves these objects and tasks.
abbrev pub MergesAreRuns : Type 0
MergesAreRuns = (s : Scenario) (ledger : ℕ → LedgerId) (histories : Histories) (last : State) → IsScenario s → IsNaming ledger
    → Shown s ledger histories last → AreOfRun s ledger (without_tickets (sorted_by_ticket (all_of histories))) last
