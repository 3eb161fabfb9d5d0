-- A text that an order refuses was read, and nothing was written behind a fault.
use Rattle.std.proofs.Common.{◌∙◌, sym}
use Rattle.biostack_top.specs.Streams.{CallStreams, sink_stream, source_stream}
use Rattle.biostack_top.proofs.EndingLemmas.{refused_exit, stops_at_fault}
use Rattle.biostack_top.proofs.serve_alone.Goals as goal

pub returns-clause-refused : goal.returns-clause-refused
returns-clause-refused g c = λ is.
    let call : CallStreams g.row.S.Denot g.row.K.Denot = record {
      source = source_stream g.S.Source c.args.source.now c.serve-ending.new.source;
      out = sink_stream g.K.Sink c.args.out.now c.serve-ending.new.out;
    } in
    refused_exit c.args.order.now call c.serve-ending.result c.serve-ending.ensures (sym c.end.ensures.exit ∙ is)

pub returns-clause-stops : goal.returns-clause-stops
returns-clause-stops g c =
    let call : CallStreams g.row.S.Denot g.row.K.Denot = record {
      source = source_stream g.S.Source c.args.source.now c.serve-ending.new.source;
      out = sink_stream g.K.Sink c.args.out.now c.serve-ending.new.out;
    } in
    stops_at_fault c.args.order.now call c.serve-ending.result c.serve-ending.ensures
