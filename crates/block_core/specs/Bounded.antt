-- How many events a run can have.
use Rattle.std.specs.Prelude.{◌+◌, ◌-◌, ◌*◌, ◌≤◌, ℕ, length, sum_by}
use Rattle.elem_ledger.specs.Ledger.{LedgerId}
use Rattle.fail_script.specs.Script.{Answers, entries_of}
use Rattle.stack_base.specs.declared.ids.PoolId.{PoolId}
use Rattle.layout_model.specs.Bound.{all_elements, all_fragments}
use Rattle.run_machine.specs.Opened.{Scenario, round_count, scene, start}
use Rattle.block_core.specs.Charges.{state_rank}
use Rattle.block_core.specs.Scenarios.{InEveryRun, IsScenario, IsNaming}

-- the entries of scripts, the rounds behind the first, and the changes of reserves
abbrev pub extra_steps : Scenario → ℕ
extra_steps s = sum_by (λ (script : PoolId × Answers). entries_of script.1) s.scripts + (round_count s - 1) + length s.changes

-- what no run exceeds: eight events an element, two a fragment, and one an entry of a script, a round behind the first and a change of a
-- reserve
abbrev pub most_steps : Scenario → ℕ
most_steps s = 8 * all_elements s.stack s.writes + 2 * all_fragments s.stack s.writes + extra_steps s

-- nor does the rank of the state in which runs begin
abbrev pub OpenedRankIsBounded : Type 0
OpenedRankIsBounded = (s : Scenario) (ledger : ℕ → LedgerId) → IsScenario s → IsNaming ledger → state_rank (scene s ledger) (start s) ≤ most_steps s

-- no run of any scenario has more events
abbrev pub RunsAreBounded : Type 0
RunsAreBounded = InEveryRun (λ s ledger events state. length events ≤ most_steps s)
