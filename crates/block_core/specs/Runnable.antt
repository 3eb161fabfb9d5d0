-- Scenarios that can be run: what all laws ask of one, but that mirrors have rescuers.
use Rattle.std.specs.Prelude.{◌≡◌, ◌+◌, ◌*◌, ◌^◌, ◌<◌, ◌≤◌, ℕ}
use Rattle.layout_model.specs.OneWay.{AreApartByRounds}
use Rattle.decl_text.specs.declared.accepted.Accepted.{Accepted}
use Rattle.work_text.specs.declared.Work.{Work}
use Rattle.run_machine.specs.Opened.{Scenario}
use Rattle.run_machine.specs.ReadBehind.{IsReadBehind}
use Rattle.run_machine.specs.Scenario.{scenario_of}
use Rattle.block_core.specs.Bounded.{extra_steps, most_steps}
use Rattle.block_core.specs.Breaks.{ElementsAreAllowed}
use Rattle.block_core.specs.Scenarios.{IsScenario, EveryPoolKeepsSome, AreSorted}

-- 65,536 entries in each of 66 scripts, 1,024 rounds behind the first and 4,096 changes of reserves. A text has no more entries than those of one
-- script here; the bound is for the number of tickets alone, which it keeps small enough
abbrev pub most_extra_steps : ℕ
most_extra_steps = 4330496

pub record IsRunnable (s : Scenario) : Type 0 where
  -- a stack, and writes that it serves, by writers of numbers below 8, each with its round
  pub scenario : IsScenario s
  -- the writes need no more elements than a scenario may
  pub allowed : ElementsAreAllowed s
  -- each pool keeps an element, at the start and behind each change
  pub reserves : EveryPoolKeepsSome s
  -- the rounds of the writes do not fall
  pub ordered : AreSorted s.rounds
  -- no two writes of a round have a sector in common, and each goes to a device that is no member
  pub apart : AreApartByRounds s.stack s.writes s.rounds
  -- and there are not too many entries, rounds and changes
  pub few : extra_steps s ≤ most_extra_steps

-- then the bound on a run's events is below 2 ^ 24
abbrev pub StepsFitIn24Bits : Type 0
StepsFitIn24Bits = (s : Scenario) → IsRunnable s → most_steps s < 2 ^ 24

-- What a text means of which no line is refused can be run, and the steps of its bound are those of its scenario.
abbrev pub AcceptedTextsAreRunnable : Type 0
AcceptedTextsAreRunnable = (accepted : Accepted) (work : Work) → IsReadBehind accepted work
    → IsRunnable (scenario_of accepted work) × (most_steps (scenario_of accepted work) ≡ 8 * work.bound.e + 2 * work.bound.g + work.bound.z)
