-- What was said are the fragments of the scene's writes.
use Rattle.std.proofs.Common.{true, refl, sym, ap, subst, length, arith}
use Rattle.report_text.specs.LayoutText.{AreOnDevices, layout_text}
use Rattle.biostack_top.specs.LayoutText.{AreLaid}
use Rattle.biostack_top.proofs.LayoutLemmas.{few_writes}
use Rattle.biostack_top.proofs.serve.layout.Goals as goal

pub layout_lines-requires-clause-few : goal.layout_lines-requires-clause-few
layout_lines-requires-clause-few g c =
    let scene = c.args.scene.now in
    omega (arith, ap length c.deref.ensures.value, few_writes scene.accepted.stack scene.work.writes.items, c.requires.needs.allowed)

pub write_layout-requires : goal.write_layout-requires
write_layout-requires g c = subst (AreOnDevices c.args.scene.now.accepted.stack) (sym c.deref-2.ensures.value) c.in-Ok.ensures.known

pub returns-in-Ok-write_layout : goal.returns-in-Ok-write_layout
returns-in-Ok-write_layout g c =
    let scene = c.args.scene.now in
    let written = c.in-Ok-write_layout.ensures in
    let laid = subst (λ writes. AreLaid scene.accepted.stack 0 writes c.in-Ok.fragments.items) c.deref.ensures.value c.in-Ok.ensures.laid in (
      written.cause.quiet,
      c.requires.fine,
      (
        layout_text scene.accepted.stack c.deref-2.result.now,
        (scene.accepted, scene.work, c.in-Ok.fragments.items, c.requires, laid, ap (layout_text scene.accepted.stack) c.deref-2.ensures.value, refl),
        written.whole,
      ),
    )

pub returns : goal.returns
returns g c =
    let scene = c.args.scene.now in
    let written = c.in-Err.ensures in
    let laid = subst (λ writes. AreLaid scene.accepted.stack 0 writes c.in-Ok.fragments.items) c.deref.ensures.value c.in-Ok.ensures.laid in (
      written.cause.failed,
      written.stops,
      c.requires.fine,
      (
        layout_text scene.accepted.stack c.deref-2.result.now,
        true,
        (scene.accepted, scene.work, c.in-Ok.fragments.items, c.requires, laid, ap (layout_text scene.accepted.stack) c.deref-2.ensures.value, refl),
        written.front,
      ),
    )
