-- What was said is what a run of the text had and left.
use Rattle.std.proofs.Common.{◌^◌, ◌<◌, List, length, true, sym, subst, ap, ◌∙◌, arith}
use Rattle.layout_model.specs.declared.write.Write.{Write}
use Rattle.run_machine.specs.Opened.{Scenario}
use Rattle.report_text.specs.CheckText.{steps_bound}
use Rattle.report_text.specs.Report.{gen_text}
use Rattle.report_text.specs.Views.{told_of}
use Rattle.biostack_top.specs.Running.{ByNumber, HasRun, sectors_of_writes}
use Rattle.biostack_top.proofs.RunningLemmas.{few_sectors, few_steps, is_of}
use Rattle.biostack_top.proofs.ToldLemmas.{tells_made}
use Rattle.biostack_top.proofs.run.run_made.Goals as goal

pub sectors-requires : goal.sectors-requires
sectors-requires g c =
    let scene = c.args.scene.now in
    subst (λ (writes : List Write). sectors_of_writes writes < 2 ^ 64) (sym c.deref.ensures.value) (few_sectors scene.text.now scene.accepted scene.work c.requires)

pub write_gen-requires-clause-ended : goal.write_gen-requires-clause-ended
write_gen-requires-clause-ended g c =
    let scene = c.args.scene.now in
    let by = c.run_quiet-ended.ensures in
    is_of scene.text.now scene.accepted scene.work c.requires (ByNumber c.args.number) by.0 c.run_quiet-ended.result
    (subst (λ (s : Scenario). HasRun s (ByNumber c.args.number) by.0 c.run_quiet-ended.result) c.in-Ok.ensures.of by.1)

pub write_gen-requires-clause-bound : goal.write_gen-requires-clause-bound
write_gen-requires-clause-bound g c =
    let scene = c.args.scene.now in few_steps scene.text.now scene.accepted scene.work c.requires

pub returns-in-Ok-write_gen : goal.returns-in-Ok-write_gen
returns-in-Ok-write_gen g c =
    let scene = c.args.scene.now in
    let by = c.run_quiet-ended.ensures in
    let ended = c.run_quiet-ended.result in
    let has = subst (λ (s : Scenario). HasRun s (ByNumber c.args.number) by.0 ended) c.in-Ok.ensures.of by.1 in
    let written = c.in-Ok-write_gen.ensures in (
      written.cause.quiet,
      c.requires.fine,
      (
        gen_text c.args.number c.len.result c.sectors.result scene.accepted.stack (told_of ended (steps_bound scene.work.bound)),
        tells_made scene.text.now scene.accepted scene.work c.requires c.args.number by.0 ended has c.len.result c.sectors.result
            (omega (arith, c.len.ensures, c.deref.ensures.len, ap length c.deref.ensures.value)) (c.sectors.ensures ∙ ap sectors_of_writes c.deref.ensures.value),
        written.whole,
      ),
    )

pub returns : goal.returns
returns g c =
    let scene = c.args.scene.now in
    let by = c.run_quiet-ended.ensures in
    let ended = c.run_quiet-ended.result in
    let has = subst (λ (s : Scenario). HasRun s (ByNumber c.args.number) by.0 ended) c.in-Ok.ensures.of by.1 in
    let written = c.in-Err.ensures in (
      written.cause.failed,
      written.stops,
      c.requires.fine,
      (
        gen_text c.args.number c.len.result c.sectors.result scene.accepted.stack (told_of ended (steps_bound scene.work.bound)),
        true,
        tells_made scene.text.now scene.accepted scene.work c.requires c.args.number by.0 ended has c.len.result c.sectors.result
            (omega (arith, c.len.ensures, c.deref.ensures.len, ap length c.deref.ensures.value)) (c.sectors.ensures ∙ ap sectors_of_writes c.deref.ensures.value),
        written.front,
      ),
    )
