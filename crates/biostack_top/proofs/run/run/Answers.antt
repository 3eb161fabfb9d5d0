-- What was said are the lines of the run, where there is a trace, and the report of what it left.
use Rattle.std.proofs.Common.{◌++◌, subst}
use Rattle.work_text.specs.Whole.{text_refusal}
use Rattle.run_machine.specs.Opened.{Scenario}
use Rattle.report_text.specs.CheckText.{steps_bound}
use Rattle.report_text.specs.Report.{report}
use Rattle.report_text.specs.Views.{told_of}
use Rattle.biostack_top.specs.Running.{ByNumber, HasRun}
use Rattle.biostack_top.specs.Streams.{sink_stream}
use Rattle.biostack_top.specs.Tracing.{traced}
use Rattle.biostack_top.specs.Ending.{TellsRun, all_well}
use Rattle.biostack_top.proofs.RunningLemmas.{few_steps, is_of}
use Rattle.biostack_top.proofs.ServeLemmas.{ends_written}
use Rattle.biostack_top.proofs.ToldLemmas.{tells_run}
use Rattle.biostack_top.proofs.run.run.Goals as goal

pub report_behind-requires-clause-ended : goal.report_behind-requires-clause-ended
report_behind-requires-clause-ended g c =
    let scene = c.args.scene.now in
    let by = c.run_opened-ended.ensures in
    let ended = c.run_opened-ended.result.0 in
    is_of scene.text.now scene.accepted scene.work c.requires (ByNumber c.args.number) by.0 ended
    (subst (λ (s : Scenario). HasRun s (ByNumber c.args.number) by.0 ended) c.in-Ok.ensures.of by.1)

pub report_behind-requires-clause-bound : goal.report_behind-requires-clause-bound
report_behind-requires-clause-bound g c =
    let scene = c.args.scene.now in few_steps scene.text.now scene.accepted scene.work c.requires

pub returns : goal.returns
returns g c =
    let scene = c.args.scene.now in
    let maker = ByNumber c.args.number in
    let by = c.run_opened-ended.ensures in
    let ended = c.run_opened-ended.result.0 in
    let has = subst (λ (s : Scenario). HasRun s maker by.0 ended) c.in-Ok.ensures.of by.1 in
    let lines = traced c.args.trace scene.accepted.stack by.0 in
    let left = report scene.accepted.stack (told_of ended (steps_bound scene.work.bound)) in
    ends_written c.report_behind.result (text_refusal scene.text.now) (TellsRun maker c.args.trace scene.text.now) (lines ++ left) (all_well ended.statuses.items)
    (sink_stream g.K.Sink c.args.out.now c.report_behind.new.out) c.requires.fine
    (tells_run scene.text.now scene.accepted scene.work c.requires maker by.0 ended has c.args.trace (λ is. has.made.1))
    (c.report_behind.ensures c.args.out.now lines by.2)
