-- What a replay says of a list of lines: whether they are those of a run.
use Rattle.std.specs.Prelude.{◌≡◌, ℕ, List, None}
use Rattle.stack_base.specs.Stack.{HasRescuers}
use Rattle.trace_text.specs.Names.{DevicesAreNamed}
use Rattle.run_machine.specs.declared.event.Event.{Event}
use Rattle.run_machine.specs.Opened.{Scenario, scene, start}
use Rattle.run_machine.specs.Runs.{State, IsRun}
use Rattle.block_core.specs.Runnable.{IsRunnable}
use Rattle.plain_core.specs.objects.Ledgers.{ledger_of}
use Rattle.trace_replay.specs.Names.{Names, no_names}
use Rattle.trace_replay.specs.Replay.{AreLinesOf, IsReplay}
use Rattle.trace_replay.specs.declared.walk.Finish.TheVariants.{Stuck}
use Rattle.trace_replay.specs.declared.walk.Replayed.{Replayed}

-- all these lines are those of a run from the start of a scenario
pub record TellRun (s : Scenario) (told : List (ℕ × List ℕ)) : Type 0 where
  pub events : List Event
  pub names : Names
  pub said : AreLinesOf s.stack no_names told events names
  pub state : State
  pub run : IsRun (scene s ledger_of) (start s) events state

-- a replay of these lines from the start of a scenario
abbrev pub IsReplayOf : Scenario → List (ℕ × List ℕ) → Replayed → Type 0
IsReplayOf s told replayed = IsReplay (scene s ledger_of) s.stack (start s) told replayed

-- There is no bad line exactly where the lines are those of a run.
pub record RunsHaveNoBadLine : Type 0 where
  pub good : (s : Scenario) (told : List (ℕ × List ℕ)) (replayed : Replayed) → IsReplayOf s told replayed → replayed.bad ≡ None → TellRun s told
  pub run : (s : Scenario) (told : List (ℕ × List ℕ)) (replayed : Replayed) → DevicesAreNamed s.stack → IsReplayOf s told replayed → TellRun s told → replayed.bad ≡ None

-- No run of a scenario that can be run, whose mirrors of two members or more have rescuers, is stuck, whatever lines tell it.
abbrev pub NoneIsStuck : Type 0
NoneIsStuck = (s : Scenario) (told : List (ℕ × List ℕ)) (replayed : Replayed) → IsRunnable s → HasRescuers s.stack → IsReplayOf s told replayed
    → replayed.finish ≡ Stuck → ⊥
