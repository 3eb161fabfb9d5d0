-- That the trace of a run is replayed to its end, at whatever places the run had its nodes.
use Rattle.std.specs.Prelude.{◌≡◌, ◌==◌, ◌<◌, ◌++◌, if◌then◌else◌, ℕ, Bool, All, List, [], ◌∷◌, length, None, Some}
use Rattle.std.specs.List.{flat_map}
use Rattle.elem_ledger.specs.Ledger.{LedgerId}
use Rattle.stack_base.specs.declared.stack.Stack.{Stack}
use Rattle.decl_text.specs.Reading.{NonePass}
use Rattle.decl_text.specs.Text.{lines}
use Rattle.work_text.specs.Whole.{text_refusal_by}
use Rattle.bio_books.specs.Links.{IsVacant}
use Rattle.run_machine.specs.declared.event.Event.{Event}
use Rattle.run_machine.specs.declared.event.How.{How}
use Rattle.run_machine.specs.declared.event.What.TheVariants as what
use Rattle.run_machine.specs.Named.{FitsEvent, IsEventOf}
use Rattle.run_machine.specs.Opened.{Scenario, scene, start}
use Rattle.run_machine.specs.Runs.{State, IsRun, IsEnabled, HasEnded}
use Rattle.block_core.specs.Scenarios.{IsScenario, IsNaming}
use Rattle.trace_text.specs.Lines.{line_of_event}
use Rattle.trace_text.specs.Names.{DevicesAreNamed}
use Rattle.plain_core.specs.objects.Ledgers.{ledger_of}
use Rattle.report_text.specs.Report.{Reported, report}
use Rattle.trace_replay.specs.Exact.{IsReplayOf, TellRun}
use Rattle.trace_replay.specs.Lines.{is_told, told_in}
use Rattle.trace_replay.specs.Names.{Names, names_after, event_placed, no_names}
use Rattle.trace_replay.specs.Parts.{scenario_lines}
use Rattle.trace_replay.specs.declared.walk.Finish.TheVariants.{Ended}
use Rattle.trace_replay.specs.declared.walk.Replayed.{Replayed}

-- read by names, one after the other, these events are those of the machine
abbrev pub AreRead : Names → List Event → List Event → Names → Type 0
AreRead names [] [] last = last ≡ names
AreRead names (told ∷ more) (event ∷ events) last = (event_placed names told ≡ Some event) × AreRead (names_after names told.what) more events last
AreRead names told events last = ⊥

-- two states have the same in pools, in the tally and on the disks of a stack
pub record HaveTheSame (s : Scenario) (one other : State) : Type 0 where
  pub pools : other.objects.pool ≡ one.objects.pool
  pub tally : other.objects.tally ≡ one.objects.tally
  pub images : (disk : ℕ) → disk < length s.stack.devices.items → (other.objects.disk disk).image ≡ (one.objects.disk disk).image

-- The events of a run, read by names, are a run too, and it leaves the same.
pub record IsReadAsRun (s : Scenario) (told : List Event) (state : State) : Type 0 where
  pub events : List Event
  pub names : Names
  pub read : AreRead no_names told events names
  pub other : State
  pub run : IsRun (scene s ledger_of) (start s) events other
  pub same : HaveTheSame s state other

-- So it is with every run of every scenario, in which a new node had whatever place of its writer's book was vacant.
abbrev pub RunsAreReadByNames : Type 0
RunsAreReadByNames = (s : Scenario) (ledger : ℕ → LedgerId) (told : List Event) (state : State) → IsScenario s → IsNaming ledger
    → IsRun (scene s ledger) (start s) told state → IsReadAsRun s told state

-- Where a new node of a writer can come in a run that is read by names, its place is vacant: the next one of the writer's book.
abbrev pub NextPlacesAreVacant : Type 0
NextPlacesAreVacant = (s : Scenario) (ledger : ℕ → LedgerId) (told events : List Event) (names : Names) (state : State) → IsScenario s → IsNaming ledger
    → AreRead no_names told events names → IsRun (scene s ledger) (start s) events state
    → (event : Event) (writer : ℕ) (how : How) (node : ℕ) → event.what ≡ what.Link writer how node → IsEnabled (scene s ledger) state event
    → IsVacant (state.objects.book writer) (names.opened writer)

-- the lines of events, each with the byte 10 that ends it
abbrev pub trace_of : Stack → List Event → List ℕ
trace_of stack events = flat_map (λ event. line_of_event stack event ++ 10 ∷ []) events

-- a text with the byte 10 that its last line may lack
unfoldable pub in_whole_lines : List ℕ → List ℕ
in_whole_lines [] = []
in_whole_lines (byte ∷ []) = if byte == 10 then byte ∷ [] else byte ∷ 10 ∷ []
in_whole_lines (byte ∷ next ∷ more) = byte ∷ in_whole_lines (next ∷ more)

-- no line of a text begins with the word `event`
abbrev pub TellsNoEvent : List ℕ → Type 0
TellsNoEvent text = NonePass is_told (lines text)

-- a text that is not refused, by all checks or by the loose ones
abbrev pub IsAccepted : List ℕ → Type 0
IsAccepted text = (loose : Bool) × (text_refusal_by loose text ≡ None)

-- No line of such a text begins so.
abbrev pub AcceptedTextsTellNoEvent : Type 0
AcceptedTextsTellNoEvent = (text : List ℕ) → IsAccepted text → TellsNoEvent text

-- The text of a scenario, the trace of a run and what stands behind the trace.
pub record HasTrace (stack : Stack) (events : List Event) (text scenario behind : List ℕ) : Type 0 where
  pub is : text ≡ in_whole_lines scenario ++ (trace_of stack events ++ behind)
  pub accepted : IsAccepted scenario
  -- each event names what the stack has, by numbers that fit its fields
  pub named : All (IsEventOf stack) events
  pub fits : All FitsEvent events

-- The scenario of such a text ends where its trace begins, and the lines of its trace are those of a run.
pub record IsReplayable (s : Scenario) (events : List Event) (text scenario : List ℕ) : Type 0 where
  pub scenario_is : 0 < length events → scenario_lines text ≡ lines scenario
  pub tells : TellRun s (told_in 1 text)

-- A replay of it has no bad line, counts all events of the run, and has ended where the run has.
pub record IsReplayedWhole (events : List Event) (state : State) (replayed : Replayed) : Type 0 where
  pub bad : replayed.bad ≡ None
  pub count : replayed.events ≡ length events
  pub ended : HasEnded state → replayed.finish ≡ Ended

-- This text has the trace of a run of a scenario, of whose devices no two have one name.
pub record TracesRun (s : Scenario) (events : List Event) (state : State) (text scenario behind : List ℕ) : Type 0 where
  pub good : IsScenario s
  pub stack : DevicesAreNamed s.stack
  pub ledger : ℕ → LedgerId
  pub naming : IsNaming ledger
  pub run : IsRun (scene s ledger) (start s) events state
  pub trace : HasTrace s.stack events text scenario behind

-- So it is with the trace of every run of every scenario, where what stands behind it tells no event.
pub record TracesReplay : Type 0 where
  pub text : (s : Scenario) (events : List Event) (state : State) (text scenario behind : List ℕ) → TracesRun s events state text scenario behind
      → TellsNoEvent behind → IsReplayable s events text scenario
  pub whole : (s : Scenario) (events : List Event) (state : State) (text scenario behind : List ℕ) (replayed : Replayed)
      → TracesRun s events state text scenario behind → TellsNoEvent behind → IsReplayOf s (told_in 1 text) replayed → IsReplayedWhole events state replayed

-- A report of a stack whose devices have names tells no event, whatever it says of a run.
abbrev pub ReportsTellNoEvent : Type 0
ReportsTellNoEvent = (stack : Stack) (told : Reported) → DevicesAreNamed stack → TellsNoEvent (report stack told)

-- So a scenario, the trace of any run of it and any report of its stack are replayed to the end.
pub record ReportedRunsReplay : Type 0 where
  pub text : (s : Scenario) (events : List Event) (state : State) (text scenario : List ℕ) (told : Reported)
      → TracesRun s events state text scenario (report s.stack told) → IsReplayable s events text scenario
  pub whole : (s : Scenario) (events : List Event) (state : State) (text scenario : List ℕ) (told : Reported) (replayed : Replayed)
      → TracesRun s events state text scenario (report s.stack told) → IsReplayOf s (told_in 1 text) replayed → IsReplayedWhole events state replayed
