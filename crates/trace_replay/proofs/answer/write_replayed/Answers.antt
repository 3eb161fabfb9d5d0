-- The lines are said one after the other.
use Rattle.std.proofs.Common.{List, map, sym, subst}
use Rattle.std.specs.Prelude.{All}
use Rattle.std.specs.List.{flat_map}
use Rattle.outside_io.specs.Saying.{Says}
use Rattle.outside_io.proofs.SaysLemmas.{says_then, finished}
use Rattle.report_text.specs.Pools.{HasDeviceOfPool}
use Rattle.trace_replay.specs.Answer.{extent_line}
use Rattle.trace_replay.specs.declared.extents.Extent.{Extent}
use Rattle.trace_replay.proofs.AnswerLemmas.{told_have}
use Rattle.trace_replay.proofs.answer.write_replayed.Goals as goal

pub put_extents-requires : goal.put_extents-requires
put_extents-requires g c =
    let stack = c.args.stack.now in
    subst (λ (es : List Extent). All (HasDeviceOfPool stack) (map (λ (e : Extent). e.pool) es)) (sym c.deref.ensures.value)
    (subst (All (HasDeviceOfPool stack)) (sym c.requires) (told_have stack))

pub returns : goal.returns
returns g c =
    let pools = subst
    (λ (es : List Extent). Says g.K.Sink c.put_finish.new.out c.put_finish.new.pen c.put_extents.new.out c.put_extents.new.pen
    (flat_map (extent_line c.args.stack.now) es))
    c.deref.ensures.value c.put_extents.ensures in
    finished c.finish.result c.new-pen.ensures (says_then c.put_events.ensures (says_then c.put_bad.ensures (says_then c.put_finish.ensures pools)))
    c.finish.ensures.says c.finish.ensures.handed c.finish.ensures.failed
