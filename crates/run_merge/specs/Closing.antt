-- What is shown of objects that were shared, once every task has stopped: their histories, the tickets that were drawn, and what each task
-- came to.
use Rattle.std.specs.Prelude.{◌≡◌, ◌⊎◌, ◌+◌, ◌-◌, ◌^◌, ◌<◌, ◌≤◌, ◌++◌, ℕ, true, false, List, All, Contains, length, sum}
use Rattle.elem_ledger.specs.Ledger.{LedgerId}
use Rattle.stack_base.specs.Stack.{HasRescuers}
use Rattle.run_machine.specs.Laws.{Object, OfTally, object_of}
use Rattle.run_machine.specs.Opened.{Scenario, start, setup_in, opened_tasks}
use Rattle.run_machine.specs.Requests.{Request, Reply, Rest}
use Rattle.run_machine.specs.Runs.{State, HasEnded}
use Rattle.run_machine.specs.Tasks.{TaskState, request, answered, look_of, is_broken}
use Rattle.block_core.specs.Runnable.{IsRunnable}
use Rattle.block_core.specs.Scenarios.{IsNaming}
use Rattle.shared_objects.specs.Calls.{struck}
use Rattle.shared_objects.specs.Passes.{AreInRow}
use Rattle.run_merge.specs.Machines.{ServesAt, LeadsObject}
use Rattle.run_merge.specs.Merging.{Ticketed, Histories, without_tickets, sorted_by_ticket, all_of, history_of, done_by, TallyThen, LetsAsk, Shown}
use Rattle.run_merge.specs.ObjectsByName.{StateAt, object_named}
use Rattle.run_merge.specs.Products.{AreOfRun}

-- A task is through: it has nothing more to ask for, or saw at the tally that no write was unfinished.
abbrev pub IsThrough : Scenario → (ℕ → LedgerId) → Histories → TaskState → Type 0
IsThrough s ledger histories task =
    (request (setup_in s) task ≡ Rest) ⊎ ((was : TallyThen s ledger (history_of OfTally histories)) × (sum was.shown.left ≡ 0))

-- Its last call was refused, behind all that it did: its object replied so at this place of its history, and the task broke off.
pub record WasRefused (s : Scenario) (ledger : ℕ → LedgerId) (histories : Histories) (place : ℕ) (task now : TaskState) : Type 0 where
  pub asked : Request
  pub reply : Reply
  -- which the call drew
  pub ticket : ℕ
  pub asks : asked ≡ struck (request (setup_in s) task)
  pub looked : LetsAsk s ledger (history_of OfTally histories) ticket task (look_of task)
  pub mine : All (λ (n : Ticketed). n.ticket < ticket) (done_by place histories)
  pub before : List Ticketed
  pub later : List Ticketed
  pub history : history_of (object_of asked) histories ≡ before ++ later
  pub smaller : All (λ (n : Ticketed). n.ticket < ticket) before
  pub greater : All (λ (n : Ticketed). ticket < n.ticket) later
  pub object : StateAt (object_of asked)
  pub leads : LeadsObject ledger (object_of asked) (object_named (start s).objects (object_of asked)) (without_tickets before) object
  pub serves : ServesAt ledger (object_of asked) object asked reply object
  pub goes_on : now ≡ answered (setup_in s) task reply
  pub broken : is_broken now ≡ true

-- the last ticket that there is was drawn, so that another draw may have found none
abbrev pub HasLast : List ℕ → Type 0
HasLast drawn = Contains drawn (2 ^ 64 - 1)

-- with the objects and tasks as they are in the end
pub record IsClosed (s : Scenario) (ledger : ℕ → LedgerId) (histories : Histories) (drawn : List ℕ) (last : State) : Type 0 where
  -- what the histories leave
  pub reached : State
  pub shown : Shown s ledger histories reached
  -- Each object is left so, unless a draw at it failed,
  pub object : (name : Object) → (object_named last.objects name ≡ object_named reached.objects name) ⊎ HasLast drawn
  -- and each task is left so and through, unless it was refused, or a draw of its own failed.
  pub task : (place : ℕ) → ((last.task place ≡ reached.task place) × IsThrough s ledger histories (reached.task place))
      ⊎ (WasRefused s ledger histories place (reached.task place) (last.task place) ⊎ HasLast drawn)
  -- each ticket that was drawn is 1, or one more than another that was drawn
  pub row : AreInRow drawn
  -- beside the tickets of entries there is no more than one a task
  pub few : length drawn ≤ length (all_of histories) + length (opened_tasks s)

-- The merge of the histories is the entries of a run. It has ended and leaves the objects and tasks as they are; no task broke off, and no draw of
-- a ticket failed.
pub record MergeIsEndedRun (s : Scenario) (ledger : ℕ → LedgerId) (histories : Histories) (drawn : List ℕ) (last : State) : Type 0 where
  pub run : AreOfRun s ledger (without_tickets (sorted_by_ticket (all_of histories))) last
  pub ended : HasEnded last
  pub unbroken : (place : ℕ) → is_broken (last.task place) ≡ false
  pub tickets : HasLast drawn → ⊥

abbrev pub ClosedRunsEnd : Type 0
ClosedRunsEnd = (s : Scenario) (ledger : ℕ → LedgerId) (histories : Histories) (drawn : List ℕ) (last : State) → IsRunnable s → HasRescuers s.stack
    → IsNaming ledger → IsClosed s ledger histories drawn last → MergeIsEndedRun s ledger histories drawn last
