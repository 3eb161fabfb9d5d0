-- What was said are the lines of the run that threads made, where there is a trace, and the report of what it left.
use Rattle.std.proofs.Common.{◌++◌, ◌∙◌, Bool, Option, inr, refl, sym, subst}
use Rattle.std.proofs.KnownBytes.{Keeps-refl}
use Rattle.run_machine.specs.Opened.{Scenario}
use Rattle.task_core.specs.declared.opening.Opened.{Opened}
use Rattle.task_core.specs.opened.OfOne.{scenario_in}
use Rattle.report_text.specs.CheckText.{steps_bound}
use Rattle.report_text.specs.Report.{report}
use Rattle.report_text.specs.Views.{told_of}
use Rattle.bio_workers.specs.Gates.{Showing}
use Rattle.biostack_top.specs.Ending.{TellsShown, all_well}
use Rattle.biostack_top.specs.Running.{ByThreads, HasRun, IsShownOf}
use Rattle.biostack_top.specs.Streams.{sink_stream}
use Rattle.biostack_top.specs.Tracing.{IsTraceOf, traced}
use Rattle.biostack_top.proofs.RunningLemmas.{few_steps, is_of}
use Rattle.biostack_top.proofs.ServeLemmas.{ends_shared}
use Rattle.biostack_top.proofs.ToldLemmas.{tells_run}
use Rattle.biostack_top.proofs.workers.run_scene.Goals as goal

pub returns-in_default-run_shown : goal.returns-in_default-run_shown
returns-in_default-run_shown g c =
    let scene = c.args.scene.now in
    let lacks = c.in_default-run_shown.ensures in
    let of = subst (λ (s : Scenario). IsShownOf s lacks.0) c.in-Ok.ensures.of
    (subst (λ (o : Opened). IsShownOf (scenario_in o) lacks.0) c.in-Ok-share.ensures.told lacks.2) in (
      (Keeps-refl (g.K.Sink.held c.args.out.now), refl),
      inr (sym c.in-Ok-share.ensures.trace ∙ lacks.3, (scene.accepted, scene.work, lacks.0, c.requires.said, of, lacks.1)),
    )

pub report_behind-requires-clause-ended : goal.report_behind-requires-clause-ended
report_behind-requires-clause-ended g c =
    let scene = c.args.scene.now in
    let by = c.in-Ok-run_shown.ensures in
    let maker = ByThreads by.0 in
    let ended = c.in-Ok-run_shown.outcome.ended in
    is_of scene.text.now scene.accepted scene.work c.requires.said maker by.3.0 ended
    (subst (λ (s : Scenario). HasRun s maker by.3.0 ended) c.in-Ok.ensures.of
    (subst (λ (o : Opened). HasRun (scenario_in o) maker by.3.0 ended) c.in-Ok-share.ensures.told by.3.1))

pub report_behind-requires-clause-bound : goal.report_behind-requires-clause-bound
report_behind-requires-clause-bound g c =
    let scene = c.args.scene.now in few_steps scene.text.now scene.accepted scene.work c.requires.said

pub returns : goal.returns
returns g c =
    let scene = c.args.scene.now in
    let text = scene.text.now in
    let trace = c.args.trace in
    let by = c.in-Ok-run_shown.ensures in
    let maker = ByThreads by.0 in
    let events = by.3.0 in
    let outcome = c.in-Ok-run_shown.outcome in
    let has = subst (λ (s : Scenario). HasRun s maker events outcome.ended) c.in-Ok.ensures.of
    (subst (λ (o : Opened). HasRun (scenario_in o) maker events outcome.ended) c.in-Ok-share.ensures.told by.3.1) in
    let kept = subst (λ (b : Bool). IsTraceOf b events outcome.events) c.in-Ok-share.ensures.trace by.3.2 in
    let lines = traced trace scene.accepted.stack events in
    let left = report scene.accepted.stack (told_of outcome.ended (steps_bound scene.work.bound)) in
    let well = all_well outcome.ended.statuses.items in
    let told = tells_run text scene.accepted scene.work c.requires.said maker events outcome.ended has trace (c.write_trace-traced.ensures.fits trace events kept) in
    ends_shared c.report_behind.result trace (g.G.Gate.shown c.run_shown.new.gate) text (lines ++ left) well
    (sink_stream g.K.Sink c.args.out.now c.report_behind.new.out) c.requires.said.fine
    (subst (λ (o : Option Showing). TellsShown trace o text (lines ++ left) well) (sym by.1) told)
    (c.report_behind.ensures c.args.out.now lines (c.write_trace-traced.ensures.written trace events kept))
