-- What was written is what the lines of events behind the scenario come to.
use Rattle.std.proofs.Common.{◌∙◌, List, ℕ, true, subst}
use Rattle.biostack_top.specs.declared.ending.Ending.TheVariants.{WriteFault, Done, NotAllWell}
use Rattle.biostack_top.specs.Scene.{SaysBy}
use Rattle.biostack_top.specs.Streams.{sink_stream}
use Rattle.biostack_top.proofs.ReplayLemmas.{none_is, replay_ends}
use Rattle.biostack_top.proofs.ServeLemmas.{written_front, written_whole}
use Rattle.biostack_top.proofs.replay.replay.Goals as goal

pub returns-in-Err : goal.returns-in-Err
returns-in-Err g c =
    let says = subst (λ (t : List ℕ). SaysBy true t c.in-Ok.scene.accepted c.in-Ok.scene.work) c.in-Ok.ensures.0 c.in-Ok.ensures.1 in
    replay_ends (sink_stream g.K.Sink c.args.out.now c.write_replayed.new.out) c.cut_text-parts.ensures c.if-text-gt-MOST_BYTES.false says c.in-Ok-replayed.ensures WriteFault (written_front c.in-Err.is c.write_replayed.ensures)

pub returns-then-is_none : goal.returns-then-is_none
returns-then-is_none g c =
    let says = subst (λ (t : List ℕ). SaysBy true t c.in-Ok.scene.accepted c.in-Ok.scene.work) c.in-Ok.ensures.0 c.in-Ok.ensures.1 in
    let said = written_whole c.in-Ok-write_replayed.is c.write_replayed.ensures in
    replay_ends (sink_stream g.K.Sink c.args.out.now c.write_replayed.new.out) c.cut_text-parts.ensures c.if-text-gt-MOST_BYTES.false says c.in-Ok-replayed.ensures Done
    (none_is c.in-Ok-replayed.replayed.bad c.is_none.result c.is_none.ensures ∙ c.if-is_none.true, said.0, said.1)

pub returns : goal.returns
returns g c =
    let says = subst (λ (t : List ℕ). SaysBy true t c.in-Ok.scene.accepted c.in-Ok.scene.work) c.in-Ok.ensures.0 c.in-Ok.ensures.1 in
    let said = written_whole c.in-Ok-write_replayed.is c.write_replayed.ensures in
    replay_ends (sink_stream g.K.Sink c.args.out.now c.write_replayed.new.out) c.cut_text-parts.ensures c.if-text-gt-MOST_BYTES.false says c.in-Ok-replayed.ensures NotAllWell
    (none_is c.in-Ok-replayed.replayed.bad c.is_none.result c.is_none.ensures ∙ c.if-is_none.false, said.0, said.1)
