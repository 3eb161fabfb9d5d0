-- A text that is refused was read, and nothing was written behind a fault.
use Rattle.std.proofs.Common.{◌∙◌, sym}
use Rattle.biostack_top.specs.Streams.{CallStreams, sink_stream, source_stream}
use Rattle.biostack_top.proofs.EndingLemmas.{refused_workers, stops_with_workers}
use Rattle.biostack_top.proofs.serve_shared.Goals as goal

pub returns-clause-refused : goal.returns-clause-refused
returns-clause-refused g c = λ is.
    let call : CallStreams g.row.S.Denot g.row.K.Denot = record {
      source = source_stream g.S.Source c.args.source.now c.serve_workers-ending.new.source;
      out = sink_stream g.K.Sink c.args.out.now c.serve_workers-ending.new.out;
    } in
    refused_workers c.args.trace (g.G.Gate.shown c.serve_workers-ending.new.gate) call c.args.workers c.serve_workers-ending.result
    c.serve_workers-ending.ensures
    (sym c.end.ensures.exit ∙ is)

pub returns-clause-stops : goal.returns-clause-stops
returns-clause-stops g c =
    let call : CallStreams g.row.S.Denot g.row.K.Denot = record {
      source = source_stream g.S.Source c.args.source.now c.serve_workers-ending.new.source;
      out = sink_stream g.K.Sink c.args.out.now c.serve_workers-ending.new.out;
    } in
    stops_with_workers c.args.trace (g.G.Gate.shown c.serve_workers-ending.new.gate) call c.serve_workers-ending.result c.serve_workers-ending.ensures
