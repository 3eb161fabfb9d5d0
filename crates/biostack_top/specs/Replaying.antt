-- What is told of the replay of a trace that stands behind its scenario.
use Rattle.std.specs.Prelude.{◌≡◌, ◌≢◌, if◌then◌else◌, nat_lt, ℕ, Bool, true, List, length, map, Option, Some, is_none}
use Rattle.std.specs.Bool.{Decides}
use Rattle.stack_base.specs.Stack.{HasRescuers}
use Rattle.decl_text.specs.Text.{lines, most_bytes}
use Rattle.decl_text.specs.Known.{nothing_declared}
use Rattle.decl_text.specs.Refusals.{refusal, refused}
use Rattle.decl_text.specs.declared.accepted.Accepted.{Accepted}
use Rattle.decl_text.specs.declared.reason.Reason.TheVariants.{TooLong}
use Rattle.decl_text.specs.declared.reason.Refusal.{Refusal}
use Rattle.work_text.specs.Work.{checks_by}
use Rattle.work_text.specs.declared.Work.{Work}
use Rattle.run_machine.specs.Scenario.{scenario_of}
use Rattle.report_text.specs.Pools.{told_pools}
use Rattle.trace_replay.specs.Answer.{replay_text}
use Rattle.trace_replay.specs.Exact.{IsReplayOf, TellRun}
use Rattle.trace_replay.specs.Lines.{told_in}
use Rattle.trace_replay.specs.Parts.{scenario_lines}
use Rattle.trace_replay.specs.declared.walk.Finish.TheVariants.{Stuck}
use Rattle.trace_replay.specs.declared.walk.Replayed.{Replayed}
use Rattle.biostack_top.specs.Scene.{SaysBy}

-- A text that is too long with its trace is refused as a whole, and another by the first line of its scenario that the
-- loose checks refuse. Behind the first line of an event nothing is.
abbrev pub replay_refusal : List ℕ → Option Refusal
replay_refusal text =
    if nat_lt most_bytes (length text) then Some (refused 0 TooLong) else refusal (checks_by true) nothing_declared 1 (scenario_lines text)

-- Lines of events come to this over a scenario: a replay, with no bad line exactly where they are those of a run, and
-- not stuck where each mirror of two members or more has a rescuer.
pub record ComeTo (accepted : Accepted) (work : Work) (told : List (ℕ × List ℕ)) (replayed : Replayed) : Type 0 where
  pub replay : IsReplayOf (scenario_of accepted work) told replayed
  pub exact : Decides (is_none replayed.bad) (TellRun (scenario_of accepted work) told)
  pub helped : HasRescuers accepted.stack → replayed.finish ≢ Stuck
  pub pools : map (λ extent. extent.pool) replayed.extents.items ≡ told_pools accepted.stack

-- This is told of a text, and all is well where there is no bad line: its scenario says a stack and work over it, and
-- over them its lines of events, by their numbers in the whole text, come to what is told.
pub record TellsReplay (text told : List ℕ) (well : Bool) : Type 0 where
  pub scenario : List ℕ
  pub before : lines scenario ≡ scenario_lines text
  pub accepted : Accepted
  pub work : Work
  pub says : SaysBy true scenario accepted work
  pub replayed : Replayed
  pub come : ComeTo accepted work (told_in 1 text) replayed
  pub told_is : told ≡ replay_text accepted.stack replayed
  pub well_is : well ≡ is_none replayed.bad
