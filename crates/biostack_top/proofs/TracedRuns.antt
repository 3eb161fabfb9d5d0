-- What is told of a run with a trace is replayed behind the text of the run.
use Rattle.std.proofs.Common.{◌≡◌, ◌<◌, ◌≤◌, ◌++◌, if◌then◌else◌, nat_lt, ℕ, Bool, true, false, List, [], ◌∷◌, length, map, None, Some, refl, sym, ap, ◌∙◌, subst, arith}
use Rattle.std.specs.Prelude.{All, is_none}
use Rattle.std.specs.List.{flat_map}
use Rattle.std.proofs.lemmas.List.{length-map}
use Rattle.stack_base.specs.declared.stack.Stack.{Stack}
use Rattle.layout_model.specs.declared.write.Write.{Write}
use Rattle.decl_text.specs.Accepting.{MeansStack}
use Rattle.decl_text.specs.Known.{Declarations, Written, nothing_declared}
use Rattle.decl_text.specs.Refusals.{known_after, refusal, refused}
use Rattle.decl_text.specs.Text.{lines, most_bytes}
use Rattle.decl_text.specs.declared.accepted.Accepted.{Accepted}
use Rattle.decl_text.specs.declared.reason.Reason.TheVariants.{TooLong}
use Rattle.work_text.specs.Whole.{known_of_text}
use Rattle.work_text.specs.Work.{checks_by, kept_resizes, last_round, change_of, as_written}
use Rattle.work_text.specs.declared.Work.{Work}
use Rattle.work_text.proofs.Unrefused.{text_lines}
use Rattle.run_machine.specs.declared.event.Event.{Event}
use Rattle.run_machine.specs.Named.{IsEventOf}
use Rattle.run_machine.specs.Opened.{Scenario, scene, start}
use Rattle.run_machine.specs.Runs.{IsRun}
use Rattle.run_machine.specs.Scenario.{scenario_of}
use Rattle.block_core.specs.Dones.{times_done}
use Rattle.block_core.specs.Scenarios.{IsScenario}
use Rattle.block_core.proofs.claim.Runnable.{accepted_texts_are_runnable}
use Rattle.report_text.specs.Report.{report}
use Rattle.trace_text.specs.Lines.{line_of_event}
use Rattle.trace_text.specs.Names.{AcceptedStacksAreNamed, DevicesAreNamed}
use Rattle.trace_replay.specs.Parts.{scenario_lines}
use Rattle.trace_replay.specs.Traces.{ReportsTellNoEvent, TracesReplay, TracesRun, in_whole_lines, trace_of}
use Rattle.biostack_top.specs.Ending.{TellsRun}
use Rattle.biostack_top.specs.Laws.{EndsAsRun, HasWrite, TracedRunsReplay, with_run}
use Rattle.biostack_top.specs.Replaying.{TellsReplay, replay_refusal}
use Rattle.biostack_top.specs.Running.{Maker}
use Rattle.biostack_top.specs.Scene.{TextSays}
use Rattle.biostack_top.specs.Tracing.{event_lines}
use Rattle.biostack_top.proofs.LooseTexts.{loosely}
use Rattle.biostack_top.proofs.ReplayLemmas.{not_long, read_loosely}
use Rattle.biostack_top.proofs.RunningLemmas.{read_behind}
use Rattle.biostack_top.proofs.SameRuns.{runs_too}
use Rattle.biostack_top.proofs.SameWords.{all_too, same_line}

-- writes and changes are what was read of them
abbrev write_of : Written → Write
write_of w = record { task = w.task; dev = record { 0 = w.dev }; start = w.start; count = w.count; tag = w.tag }

writes_back : (writes : List Write) → map write_of (map as_written writes) ≡ writes
writes_back [] = refl
writes_back (write ∷ more) = ap (λ all. write ∷ all) (writes_back more)

-- two readings of texts that declare the same, but for their stacks
module _ (known : Declarations) (one other : Accepted) (first second : Work)
    (a : MeansStack known one.stack one.scripts.items) (b : MeansStack known other.stack other.scripts.items)
    (one_writes : map as_written first.writes.items ≡ known.writes) (other_writes : map as_written second.writes.items ≡ known.writes)
    (one_rounds : first.rounds.items ≡ known.rounds) (other_rounds : second.rounds.items ≡ known.rounds)
    (one_resizes : map change_of first.resizes.items ≡ kept_resizes (last_round known.rounds) known.resizes)
    (other_resizes : map change_of second.resizes.items ≡ kept_resizes (last_round known.rounds) known.resizes) where
  same_scenario : record (scenario_of one first) { stack = other.stack } ≡ scenario_of other second
  same_scenario =
      let scripts = a.scripts ∙ sym b.scripts in
      let writes = sym (writes_back first.writes.items) ∙ ap (map write_of) (one_writes ∙ sym other_writes) ∙ writes_back second.writes.items in
      let rounds = one_rounds ∙ sym other_rounds in
      let changes = one_resizes ∙ sym other_resizes in
      λ k. record { stack = other.stack; scripts = scripts k; writes = writes k; rounds = rounds k; changes = changes k }

module _ (stacks_named : AcceptedStacksAreNamed) (replays : TracesReplay) (no_event : ReportsTellNoEvent) (maker : Maker) (text told : List ℕ) (well : Bool)
    (run : TellsRun maker true text told well) (has : HasWrite text) where
  abbrev accepted : Accepted
  accepted = run.0

  abbrev work : Work
  work = run.1

  abbrev events : List Event
  events = run.2

  abbrev behind : List ℕ
  behind = report run.0.stack run.3

  abbrev says : TextSays text accepted work
  says = run.4

  -- a run with a write has an event
  done_some : (all : List Event) → times_done 0 all ≡ 1 → 0 < length all
  done_some [] once = absurd (omega (arith, once))
  done_some (event ∷ more) once = omega arith

  some_writes : 0 < length work.writes.items
  some_writes = omega (arith, has, ap length says.writes, length-map work.writes.items as_written)

  some : 0 < length events
  some = done_some events (run.6.ended.claimed.all_done run.6.ended.ends.writes 0 some_writes)

  -- its trace, over each stack that its declarations mean
  is_text : (stack : Stack) → ((event : Event) → line_of_event accepted.stack event ≡ line_of_event stack event) → with_run text told ≡ in_whole_lines text ++ (trace_of stack events ++ behind)
  unfolding event_lines
  is_text stack same =
      ap (λ back. in_whole_lines text ++ back) run.8
      ∙ ap (λ (line : Event → List ℕ). in_whole_lines text ++ (flat_map (λ event. line event ++ 10 ∷ []) events ++ behind)) (λ k event. same event k)

  traces : (s : Scenario) → IsScenario s → DevicesAreNamed s.stack → IsRun (scene s run.6.ledger) (start s) events run.6.state → ((event : Event) → line_of_event accepted.stack event ≡ line_of_event s.stack event)
      → All (IsEventOf s.stack) events → TracesRun s events run.6.state (with_run text told) text behind
  traces s good named runs same all = record {
    good = good;
    stack = named;
    ledger = run.6.ledger;
    naming = run.6.ended.naming;
    run = runs;
    trace = record { is = is_text s.stack same; accepted = (false, says.fine); named = all; fits = run.7 refl };
  }

  -- the scenario of it ends where the text ends
  scenario_is : scenario_lines (with_run text told) ≡ lines text
  scenario_is =
      let s = scenario_of accepted work in
      let good = (accepted_texts_are_runnable accepted work (read_behind text accepted work says)).0.scenario in
      (replays.text s events run.6.state (with_run text told) text behind
      (traces s good (stacks_named accepted) run.6.ended.run (λ event. refl) run.6.ended.named) (no_event accepted.stack run.3 (stacks_named accepted))).scenario_is some

  pub not_refused : length (with_run text told) ≤ most_bytes → replay_refusal (with_run text told) ≡ None
  not_refused few =
      not_long (length (with_run text told)) (Some (refused 0 TooLong)) (refusal (checks_by true) nothing_declared 1 (scenario_lines (with_run text told))) few
      ∙ ap (refusal (checks_by true) nothing_declared 1) scenario_is
      ∙ loosely (lines text) (text_lines text says.fine).1

  module _ (answer : List ℕ) (good : Bool) (again : TellsReplay (with_run text told) answer good) where
    abbrev other : Accepted
    other = again.accepted

    -- what is read of the scenario is what was read of the text
    same_known : known_of_text again.scenario ≡ known_of_text text
    same_known = ap (known_after nothing_declared) (again.before ∙ scenario_is)

    means : MeansStack (known_of_text text) other.stack other.scripts.items
    means = subst (λ (known : Declarations). MeansStack known other.stack other.scripts.items) same_known again.says.means

    same : record (scenario_of accepted work) { stack = other.stack } ≡ scenario_of other again.work
    same =
        same_scenario (known_of_text text) accepted other work again.work says.means means says.writes
        (again.says.writes ∙ ap (λ (known : Declarations). known.writes) same_known) says.rounds (again.says.rounds ∙ ap (λ (known : Declarations). known.rounds) same_known)
        says.resizes (again.says.resizes ∙ ap (λ (known : Declarations). kept_resizes (last_round known.rounds) known.resizes) same_known)

    runs : IsRun (scene (scenario_of other again.work) run.6.ledger) (start (scenario_of other again.work)) events run.6.state
    runs =
        subst (λ (s : Scenario). IsRun (scene s run.6.ledger) (start s) events run.6.state) same
        (runs_too (known_of_text text) (scenario_of accepted work) other.stack accepted.scripts.items other.scripts.items says.means means run.6.ledger events run.6.state
        run.6.ended.run)

    traces_again : TracesRun (scenario_of other again.work) events run.6.state (with_run text told) text behind
    traces_again =
        traces (scenario_of other again.work) (accepted_texts_are_runnable other again.work (read_loosely again.scenario other again.work again.says)).0.scenario
        (stacks_named other) runs
        (same_line (known_of_text text) accepted.stack other.stack accepted.scripts.items other.scripts.items says.means means)
        (all_too (known_of_text text) accepted.stack other.stack accepted.scripts.items other.scripts.items says.means means events run.6.ended.named)

    pub ends : EndsAsRun events good again.replayed
    ends =
        let whole = replays.whole (scenario_of other again.work) events run.6.state (with_run text told) text behind again.replayed traces_again
        (no_event accepted.stack run.3 (stacks_named accepted)) again.come.replay in
        record {
          well = again.well_is ∙ ap is_none whole.bad;
          bad = whole.bad;
          count = whole.count;
          finish = whole.ended run.6.ended.ends;
        }

pub traced_runs_replay : AcceptedStacksAreNamed → TracesReplay → ReportsTellNoEvent → TracedRunsReplay
traced_runs_replay stacks_named replays no_event = record {
  fine = λ maker text told well run written few. not_refused stacks_named replays no_event maker text told well run written few;
  whole = λ maker text told well run written answer good again. ends stacks_named replays no_event maker text told well run written answer good again;
}
