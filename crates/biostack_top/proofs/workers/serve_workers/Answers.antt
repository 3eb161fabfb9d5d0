-- The text that was read ends the call, or there was none.
use Rattle.std.proofs.Common.{ℕ, List, refl, subst}
use Rattle.std.proofs.KnownBytes.{Keeps-refl}
use Rattle.biostack_top.specs.Ending.{SharedEndsBy}
use Rattle.biostack_top.specs.Streams.{CallStreams, sink_stream, source_stream}
use Rattle.biostack_top.proofs.EndingLemmas.{over_shared_text, without_text}
use Rattle.biostack_top.proofs.workers.serve_workers.Goals as goal

pub returns-in-Ok : goal.returns-in-Ok
returns-in-Ok g c =
    let call : CallStreams g.row.S.Denot g.row.K.Denot = record {
      source = source_stream g.S.Source c.args.source.now c.read.new.source;
      out = sink_stream g.K.Sink c.args.out.now c.serve_text.new.out;
    } in
    let shown = g.G.Gate.shown c.serve_text.new.gate in
    let ends = subst (λ (text : List ℕ). SharedEndsBy c.serve_text.result c.args.trace shown text call.out) c.deref.ensures.value c.serve_text.ensures in
    over_shared_text c.args.trace shown call c.serve_text.result c.in-Ok.text.items c.in-Ok.ensures ends

pub returns-in-Err : goal.returns-in-Err
returns-in-Err g c =
    let call : CallStreams g.row.S.Denot g.row.K.Denot = record {
      source = source_stream g.S.Source c.args.source.now c.read.new.source;
      out = sink_stream g.K.Sink c.args.out.now c.args.out.now;
    } in
    without_text c.args.trace (g.G.Gate.shown c.args.gate.now) call c.in-Err.ending c.in-Err.ensures
    (Keeps-refl (g.K.Sink.held c.args.out.now), refl) c.requires.unshown
