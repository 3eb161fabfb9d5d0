-- The trace of a run is replayed to its end.
use Rattle.std.proofs.Common.{◌≡◌, ◌<◌, ℕ, List, [], ◌∷◌, ◌++◌, length, filter, map, refl, sym, ap, ◌∙◌, subst, arith}
use Rattle.std.specs.Prelude.{All, sum, drop, slice_index_or}
use Rattle.std.specs.List.{before_first}
use Rattle.std.proofs.lemmas.List.{append_assoc, append-nil, length-map}
use Rattle.std.proofs.lemmas.List.Concat.{flat_map-cons}
use Rattle.std.proofs.lemmas.List.Elements.{All-head, All-tail, filter-append}
use Rattle.elem_ledger.specs.Ledger.{LedgerId}
use Rattle.stack_base.specs.declared.stack.Stack.{Stack}
use Rattle.decl_text.specs.Reading.{NonePass}
use Rattle.decl_text.specs.Steps.{FirstPasses}
use Rattle.decl_text.specs.Text.{lines}
use Rattle.decl_text.proofs.Cuts.{before_is}
use Rattle.run_machine.specs.declared.event.Event.{Event}
use Rattle.run_machine.specs.Named.{FitsEvent, IsEventOf}
use Rattle.run_machine.specs.Opened.{Scenario, scene, start}
use Rattle.run_machine.specs.Runs.{State, IsRun, HasEnded}
use Rattle.run_machine.proofs.Apart.{runs_lead_to_one_state}
use Rattle.block_core.specs.Scenarios.{IsScenario, IsNaming}
use Rattle.trace_text.specs.Laws.{IsEventLine, EventsAreApart, LinesAreText}
use Rattle.trace_text.specs.Lines.{line_of_event}
use Rattle.trace_text.specs.Names.{DevicesAreNamed}
use Rattle.plain_core.specs.objects.Ledgers.{ledger_of}
use Rattle.report_text.specs.Report.{report}
use Rattle.trace_replay.specs.Exact.{IsReplayOf, TellRun, RunsHaveNoBadLine}
use Rattle.trace_replay.specs.Lines.{is_told, told_in}
use Rattle.trace_replay.specs.Names.{Names, no_names, names_after}
use Rattle.trace_replay.specs.Replay.{AreLinesOf, IsFinish}
use Rattle.trace_replay.specs.Traces.{AreRead, IsReadAsRun, trace_of, HasTrace, AcceptedTextsTellNoEvent, IsReplayable, IsReplayedWhole, TracesReplay, ReportsTellNoEvent, ReportedRunsReplay}
use Rattle.trace_replay.specs.declared.walk.Finish.{Finish}
use Rattle.trace_replay.specs.declared.walk.Finish.TheVariants.{Ended, Open, Stuck}
use Rattle.trace_replay.specs.declared.walk.Replayed.{Replayed}
use Rattle.trace_replay.proofs.Exact.{no_bad_line, none_left, one_told}
use Rattle.trace_replay.proofs.TextLines.{line_first, whole_first, told_are, none_told}
use Rattle.trace_replay.proofs.renaming.Runs.{runs_are_read_by_names}

-- the lines of a trace are its events'
module _ (stack : Stack) (named : DevicesAreNamed stack) (text_lines : LinesAreText) where
  line_is : (event : Event) → IsEventOf stack event → FitsEvent event → IsEventLine stack (line_of_event stack event) event
  line_is event of fits = record { said = refl; named = of; fits = fits }

  pub trace_lines : (events : List Event) (report : List ℕ) → All (IsEventOf stack) events → All FitsEvent events
      → lines (trace_of stack events ++ report) ≡ map (line_of_event stack) events ++ lines report
  trace_lines [] report of fits = refl
  trace_lines (event ∷ events) report of fits =
      let line = line_of_event stack event in
      let plain = text_lines stack line event named (line_is event (All-head (IsEventOf stack) event events of) (All-head FitsEvent event events fits)) in
      let rest = trace_of stack events ++ report in
      ap lines (
      ap (λ bytes. bytes ++ report) (flat_map-cons (λ e. line_of_event stack e ++ 10 ∷ []) event events)
      ∙ append_assoc (line ++ 10 ∷ []) (trace_of stack events) report
      ∙ append_assoc line (10 ∷ []) rest
      )
      ∙ line_first line rest plain
      ∙ ap (λ all. line ∷ all) (trace_lines events report (All-tail (IsEventOf stack) event events of) (All-tail FitsEvent event events fits))

  all_told : (events : List Event) → filter is_told (map (line_of_event stack) events) ≡ map (line_of_event stack) events
  all_told [] = refl
  all_told (event ∷ events) = ap (λ all. line_of_event stack event ∷ all) (all_told events)

  module _ (accepted_none : AcceptedTextsTellNoEvent) (events : List Event) (text scenario report : List ℕ) (has : HasTrace stack events text scenario report) where
    abbrev before : NonePass is_told (lines scenario)
    before = accepted_none scenario has.accepted

    all_lines : lines text ≡ lines scenario ++ (map (line_of_event stack) events ++ lines report)
    all_lines =
        ap lines has.is ∙ whole_first scenario (trace_of stack events ++ report)
        ∙ ap (λ all. lines scenario ++ all) (trace_lines events report has.named has.fits)

    pub told_are_its : NonePass is_told (lines report) → map (λ (line : ℕ × List ℕ). line.1) (told_in 1 text) ≡ map (line_of_event stack) events
    told_are_its none =
        told_are 1 (lines text)
        ∙ ap (filter is_told) all_lines
        ∙ filter-append is_told (lines scenario) (map (line_of_event stack) events ++ lines report)
        ∙ ap (λ all. all ++ filter is_told (map (line_of_event stack) events ++ lines report)) (none_told (lines scenario) before)
        ∙ filter-append is_told (map (line_of_event stack) events) (lines report)
        ∙ ap (λ all. filter is_told (map (line_of_event stack) events) ++ all) (none_told (lines report) none)
        ∙ append-nil (filter is_told (map (line_of_event stack) events))
        ∙ all_told events

    begins : (events : List Event) → 0 < length events → FirstPasses is_told (map (line_of_event stack) events ++ lines report)
    begins [] some = absurd (omega (arith, some))
    begins (event ∷ events) some = refl

    pub scenario_ends : 0 < length events → before_first is_told (lines text) ≡ lines scenario
    scenario_ends some =
        ap (before_first is_told) all_lines ∙ before_is is_told (lines scenario) (map (line_of_event stack) events ++ lines report) before (begins events some)

  -- these lines tell what the events are read as
  pub read_lines : (names last : Names) (events read : List Event) (told : List (ℕ × List ℕ)) → All (IsEventOf stack) events → All FitsEvent events
      → map (λ (line : ℕ × List ℕ). line.1) told ≡ map (line_of_event stack) events → AreRead names events read last → AreLinesOf stack names told read last
  read_lines names last [] [] [] of fits lines_are is = is
  read_lines names last [] [] (line ∷ told) of fits lines_are is = absurd cc
  read_lines names last [] (event ∷ read) told of fits lines_are is = absurd is
  read_lines names last (event ∷ events) [] told of fits lines_are is = absurd is
  read_lines names last (event ∷ events) (one ∷ read) [] of fits lines_are is = absurd cc
  read_lines names last (event ∷ events) (one ∷ read) (line ∷ told) of fits lines_are is =
      let said : line.1 ≡ line_of_event stack event = ap (λ (all : List (List ℕ)). slice_index_or all 0 []) lines_are in
      let more = ap (λ (all : List (List ℕ)). drop 1 all) lines_are in (
        names_after names event.what,
        record {
          told = event;
          said = record { said = said; named = All-head (IsEventOf stack) event events of; fits = All-head FitsEvent event events fits };
          placed = is.0;
          next_is = refl;
        },
        read_lines (names_after names event.what) last events read told (All-tail (IsEventOf stack) event events of) (All-tail FitsEvent event events fits) more is.1,
      )

-- the same lines tell the same events
same_events : (stack : Stack) (names first second : Names) (told : List (ℕ × List ℕ)) (one other : List Event) → EventsAreApart → DevicesAreNamed stack
    → AreLinesOf stack names told one first → AreLinesOf stack names told other second → other ≡ one
same_events stack names first second [] [] [] apart named a b = refl
same_events stack names first second [] [] (event ∷ other) apart named a b = absurd b
same_events stack names first second [] (event ∷ one) other apart named a b = absurd a
same_events stack names first second (line ∷ told) [] other apart named a b = absurd a
same_events stack names first second (line ∷ told) (event ∷ one) [] apart named a b = absurd b
same_events stack names first second (line ∷ told) (event ∷ one) (like ∷ other) apart named (next, tells, a) (again, too, b) =
    let same = one_told stack names line.1 event like next again apart named tells too in
    let rest = same_events stack next first second told one other apart named a (subst (λ (n : Names). AreLinesOf stack n told other second) same.1 b) in
    λ k. same.0 k ∷ rest k

-- as many as there are lines
count_lines : (stack : Stack) (names last : Names) (told : List (ℕ × List ℕ)) (events : List Event) → AreLinesOf stack names told events last → length events ≡ length told
count_lines stack names last [] [] said = refl
count_lines stack names last [] (event ∷ events) said = absurd said
count_lines stack names last (line ∷ told) [] said = absurd said
count_lines stack names last (line ∷ told) (event ∷ events) (next, tells, said) =
    let rest = count_lines stack next last told events said in omega (arith, rest)

-- a state that has ended is left so
ends_so : (s : Scenario) (state : State) (finish : Finish) → IsFinish (scene s ledger_of) state finish → HasEnded state → finish ≡ Ended
ends_so s state Ended is ended = refl
ends_so s state Open is ended = absurd (is.0 ended)
ends_so s state Stuck is ended = let none = ended.writes in let some = is.0 in absurd (omega (arith, none, some))

module _ (accepted_none : AcceptedTextsTellNoEvent) (apart : EventsAreApart) (text_lines : LinesAreText) (s : Scenario) (ledger : ℕ → LedgerId) (events : List Event) (state : State) (text scenario report : List ℕ)
    (good : IsScenario s) (naming : IsNaming ledger) (named : DevicesAreNamed s.stack) (run : IsRun (scene s ledger) (start s) events state) (has : HasTrace s.stack events text scenario report)
    (none : NonePass is_told (lines report)) where
  abbrev as_run : IsReadAsRun s events state
  as_run = runs_are_read_by_names s ledger events state good naming run

  lines_tell : AreLinesOf s.stack no_names (told_in 1 text) as_run.events as_run.names
  lines_tell =
      read_lines s.stack named text_lines no_names as_run.names events as_run.events (told_in 1 text) has.named has.fits (told_are_its s.stack named text_lines accepted_none events text scenario report has none)
      as_run.read

  tell_run : TellRun s (told_in 1 text)
  tell_run = record { events = as_run.events; names = as_run.names; said = lines_tell; state = as_run.other; run = as_run.run }

  pub replayable : IsReplayable s events text scenario
  replayable = record { scenario_is = scenario_ends s.stack named text_lines accepted_none events text scenario report has; tells = tell_run }

  pub replayed_whole : (replayed : Replayed) → IsReplayOf s (told_in 1 text) replayed → IsReplayedWhole events state replayed
  replayed_whole replayed is =
      let exact : RunsHaveNoBadLine = no_bad_line apart in
      let bad = exact.run s (told_in 1 text) replayed named is tell_run in
      let end = none_left (scene s ledger_of) s.stack is.names is.state is.rest replayed.bad is.stops bad in
      let all : is.front ≡ told_in 1 text = sym (is.cut ∙ ap (λ (rest : List (ℕ × List ℕ)). is.front ++ rest) end ∙ append-nil is.front) in
      let said : AreLinesOf s.stack no_names (told_in 1 text) is.events is.names = subst (λ (told : List (ℕ × List ℕ)). AreLinesOf s.stack no_names told is.events is.names) all is.said in
      let same : is.events ≡ as_run.events = same_events s.stack no_names as_run.names is.names (told_in 1 text) as_run.events is.events apart named lines_tell said in
      let left : is.state ≡ as_run.other =
      runs_lead_to_one_state.one s ledger_of as_run.events is.state as_run.other (subst (λ (es : List Event). IsRun (scene s ledger_of) (start s) es is.state) same is.run) as_run.run in
      let told = ap length (told_are_its s.stack named text_lines accepted_none events text scenario report has none) in
      let long = length-map (told_in 1 text) (λ (line : ℕ × List ℕ). line.1) in
      let many = length-map events (line_of_event s.stack) in
      record {
        bad = bad;
        count = is.count ∙ count_lines s.stack no_names is.names (told_in 1 text) is.events said ∙ sym long ∙ told ∙ many;
        ended = λ ended. ends_so s is.state replayed.finish is.finish (subst HasEnded (sym left) (record {
          writes = ap (λ t. sum t.left) as_run.same.tally ∙ ended.writes;
          pools = λ number. ap (λ f. (f number).facts.out) as_run.same.pools ∙ ended.pools number;
        }));
      }

pub traces_replay : AcceptedTextsTellNoEvent → EventsAreApart → LinesAreText → TracesReplay
traces_replay accepted_none apart text_lines = record {
  text = λ s events state text scenario behind t none.
      replayable accepted_none apart text_lines s t.ledger events state text scenario behind t.good t.naming t.stack t.run t.trace none;
  whole = λ s events state text scenario behind replayed t none is.
      replayed_whole accepted_none apart text_lines s t.ledger events state text scenario behind t.good t.naming t.stack t.run t.trace none replayed is;
}

pub reported_runs_replay : TracesReplay → ReportsTellNoEvent → ReportedRunsReplay
reported_runs_replay replay none = record {
  text = λ s events state text scenario told t.
      replay.text s events state text scenario (report s.stack told) t (none s.stack told t.stack);
  whole = λ s events state text scenario told replayed t is.
      replay.whole s events state text scenario (report s.stack told) replayed t (none s.stack told t.stack) is;
}
