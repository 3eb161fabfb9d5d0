-- What was written are the lines of the members in what the run left, and of its steps.
use Rattle.std.proofs.Common.{List, sym, ap, subst, ◌∙◌}
use Rattle.model_disks.specs.Disks.{DiskState}
use Rattle.run_machine.specs.Opened.{Scenario}
use Rattle.mirror_scrub.specs.Seen.{AreDisksOf, held}
use Rattle.mirror_scrub.specs.Text.{all_alike}
use Rattle.biostack_top.specs.declared.ending.Ending.TheVariants.{WriteFault, Done, NotAllWell}
use Rattle.biostack_top.specs.Running.{ByNumber, HasRun}
use Rattle.biostack_top.specs.Streams.{sink_stream}
use Rattle.biostack_top.proofs.RunningLemmas.{few_steps}
use Rattle.biostack_top.proofs.ScrubLemmas.{are_disks, scrub_ends, scrub_written}
use Rattle.biostack_top.proofs.ServeLemmas.{written_front, written_whole}
use Rattle.biostack_top.proofs.scrub.scrub.Goals as goal

pub scrub-told-requires-clause-disks : goal.scrub-told-requires-clause-disks
scrub-told-requires-clause-disks g c =
    let scene = c.args.scene.now in
    let by = c.run_quiet-ended.ensures in
    subst (λ (disks : List DiskState). AreDisksOf scene.accepted.stack disks) (sym c.deref.ensures.value)
    (are_disks scene.text.now scene.accepted scene.work c.requires c.args.number by.0 c.run_quiet-ended.result
    (subst (λ (s : Scenario). HasRun s (ByNumber c.args.number) by.0 c.run_quiet-ended.result) c.in-Ok.ensures.of by.1))

pub steps_behind-requires : goal.steps_behind-requires
steps_behind-requires g c =
    let scene = c.args.scene.now in few_steps scene.text.now scene.accepted scene.work c.requires

pub all_alike-requires-clause-disks : goal.all_alike-requires-clause-disks
all_alike-requires-clause-disks g c =
    let scene = c.args.scene.now in
    let by = c.run_quiet-ended.ensures in
    subst (λ (disks : List DiskState). AreDisksOf scene.accepted.stack disks) (sym c.deref-in-Ok-steps_behind.ensures.value)
    (are_disks scene.text.now scene.accepted scene.work c.requires c.args.number by.0 c.run_quiet-ended.result
    (subst (λ (s : Scenario). HasRun s (ByNumber c.args.number) by.0 c.run_quiet-ended.result) c.in-Ok.ensures.of by.1))

pub returns-in-Err : goal.returns-in-Err
returns-in-Err g c =
    let by = c.run_quiet-ended.ensures in
    let has = subst (λ (s : Scenario). HasRun s (ByNumber c.args.number) by.0 c.run_quiet-ended.result) c.in-Ok.ensures.of by.1 in
    let all = scrub_written c.requires has c.scrub-told.result c.steps_behind.result c.deref.ensures.value c.scrub-told.ensures c.steps_behind.ensures.ok c.steps_behind.ensures.err in
    scrub_ends c.requires has (sink_stream g.K.Sink c.args.out.now c.steps_behind.new.out) WriteFault (written_front c.in-Err.is all)

pub returns-then-all_alike : goal.returns-then-all_alike
returns-then-all_alike g c =
    let by = c.run_quiet-ended.ensures in
    let has = subst (λ (s : Scenario). HasRun s (ByNumber c.args.number) by.0 c.run_quiet-ended.result) c.in-Ok.ensures.of by.1 in
    let all = scrub_written c.requires has c.scrub-told.result c.steps_behind.result c.deref.ensures.value c.scrub-told.ensures c.steps_behind.ensures.ok c.steps_behind.ensures.err in
    let said = written_whole c.in-Ok-steps_behind.is all in
    let well = ap (λ (disks : List DiskState). all_alike c.args.scene.now.accepted.stack (held disks)) (sym c.deref-in-Ok-steps_behind.ensures.value) ∙ sym c.all_alike.ensures ∙ c.if-all_alike.true in
    scrub_ends c.requires has (sink_stream g.K.Sink c.args.out.now c.steps_behind.new.out) Done (well, said.0, said.1)

pub returns : goal.returns
returns g c =
    let by = c.run_quiet-ended.ensures in
    let has = subst (λ (s : Scenario). HasRun s (ByNumber c.args.number) by.0 c.run_quiet-ended.result) c.in-Ok.ensures.of by.1 in
    let all = scrub_written c.requires has c.scrub-told.result c.steps_behind.result c.deref.ensures.value c.scrub-told.ensures c.steps_behind.ensures.ok c.steps_behind.ensures.err in
    let said = written_whole c.in-Ok-steps_behind.is all in
    let well = ap (λ (disks : List DiskState). all_alike c.args.scene.now.accepted.stack (held disks)) (sym c.deref-in-Ok-steps_behind.ensures.value) ∙ sym c.all_alike.ensures ∙ c.if-all_alike.false in
    scrub_ends c.requires has (sink_stream g.K.Sink c.args.out.now c.steps_behind.new.out) NotAllWell (well, said.0, said.1)
