-- What is read of a trace, and what its replay comes to.
use Rattle.std.specs.Prelude.{◌≡◌, ◌≤◌, ◌++◌, ℕ, Bool, true, List, All, Contains, length, Option, None, Some}
use Rattle.elem_ledger.specs.Ledger.{LedgerId}
use Rattle.decl_text.specs.Text.{most_bytes}
use Rattle.decl_text.specs.declared.accepted.Accepted.{Accepted}
use Rattle.work_text.specs.Whole.{known_of_text}
use Rattle.work_text.specs.declared.Work.{Work}
use Rattle.run_machine.specs.declared.event.Event.{Event}
use Rattle.run_machine.specs.Named.{FitsEvent}
use Rattle.run_machine.specs.Runs.{State}
use Rattle.report_text.specs.Report.{Reported}
use Rattle.trace_text.specs.Laws.{IsEventRead}
use Rattle.trace_text.specs.Lines.{line_of_event}
use Rattle.trace_replay.specs.Traces.{in_whole_lines}
use Rattle.trace_replay.specs.declared.walk.Finish.TheVariants.{Ended}
use Rattle.trace_replay.specs.declared.walk.Replayed.{Replayed}
use Rattle.biostack_top.specs.Ending.{TellsRun}
use Rattle.biostack_top.specs.Replaying.{TellsReplay, replay_refusal}
use Rattle.biostack_top.specs.Running.{EndsAsTold, Maker}

-- the line of each event of a run, by numbers that fit its fields, is read back as this event, and as no other
abbrev pub TracesAreReadBack : Type 0
TracesAreReadBack = (accepted : Accepted) (work : Work) (ledger : ℕ → LedgerId) (events : List Event) (state : State) (left : Reported)
    → EndsAsTold accepted work ledger events state left → All FitsEvent events → (event : Event) → Contains events event
    → IsEventRead accepted.stack (line_of_event accepted.stack event) (Some event)
    × ((answer : Option Event) → IsEventRead accepted.stack (line_of_event accepted.stack event) answer → answer ≡ Some event)

-- a text has a write
abbrev pub HasWrite : List ℕ → Type 0
HasWrite text = 1 ≤ length (known_of_text text).writes

-- a text, and behind its lines what was told of a run of it
abbrev pub with_run : List ℕ → List ℕ → List ℕ
with_run text told = in_whole_lines text ++ told

-- A replay has come to the end of a run of these events: no line is bad, and all is well.
pub record EndsAsRun (events : List Event) (good : Bool) (replayed : Replayed) : Type 0 where
  pub well : good ≡ true
  pub bad : replayed.bad ≡ None
  pub count : replayed.events ≡ length events
  pub finish : replayed.finish ≡ Ended

-- What is told of a run with a trace, by a schedule or by threads, is replayed behind its text to the end of this run, whatever else a replay of it
-- may tell. Such a text is not refused, where it is not too long with what was told.
pub record TracedRunsReplay : Type 0 where
  pub fine : (maker : Maker) (text told : List ℕ) (well : Bool) → TellsRun maker true text told well → HasWrite text
      → length (with_run text told) ≤ most_bytes → replay_refusal (with_run text told) ≡ None
  pub whole : (maker : Maker) (text told : List ℕ) (well : Bool) (run : TellsRun maker true text told well) → HasWrite text
      → (answer : List ℕ) (good : Bool) (again : TellsReplay (with_run text told) answer good) → EndsAsRun run.2 good again.replayed
