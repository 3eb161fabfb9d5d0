-- Runs that are worked out for examples, as runs of a scenario that a text says.
use Rattle.std.proofs.Common.{◌≡◌, ℕ, List, length}
use Rattle.elem_ledger.specs.Ledger.{LedgerId}
use Rattle.stack_base.specs.declared.ids.PoolId.{PoolId}
use Rattle.run_machine.specs.declared.event.Event.{Event}
use Rattle.run_machine.specs.Scene.{Setup}
use Rattle.run_machine.specs.Tasks.{TaskState}
use Rattle.run_machine.specs.Objects.{TallyState}
use Rattle.run_machine.specs.Opened.{Scenario}
use Rattle.run_machine.specs.Opened as texts
use Rattle.run_machine.specs.Runs.{State, IsRun}
use Rattle.run_machine.proofs.Beginnings.{IsOfScenario, objects_by, state_by}
use Rattle.run_machine.proofs.Beginnings as begins
use Rattle.run_machine.proofs.Texts.{SaysScenario}

-- The text says the scenario, and these events are those of a run of it to this state, each by the ledger that the numbered ones are made of.
pub record IsRunOfText (text : List ℕ) (s : Scenario) (ledger : LedgerId → ℕ → LedgerId) (events : LedgerId → List Event) (end : LedgerId → State) : Type 0 where
  pub says : SaysScenario text s
  pub runs : (some : LedgerId) → IsRun (texts.scene s (ledger some)) (texts.start s) (events some) (end some)

-- so it is of a run from what is written out, where the runs of the scenario begin with that
pub run_of_text : (setup : Setup) (reserve : PoolId → ℕ) (tally : TallyState) (tasks : List TaskState) (text : List ℕ) (s : Scenario)
    → IsOfScenario setup reserve tally s → tasks ≡ texts.opened_tasks s → SaysScenario text s
    → (ledger : LedgerId → ℕ → LedgerId) (events : LedgerId → List Event) (end : LedgerId → State)
    → ((some : LedgerId) → IsRun (record { setup = setup; tasks = length tasks; books = 8; writes = length s.writes; ledger = ledger some })
    (state_by (objects_by setup reserve s.scripts tally) tasks) (events some) (end some))
    → IsRunOfText text s ledger events end
run_of_text setup reserve tally tasks text s is tasks_are says ledger events end runs = record {
  says = says;
  runs = λ some. begins.text_runs setup reserve tally s is tasks tasks_are (ledger some) (events some) (end some) (runs some);
}
