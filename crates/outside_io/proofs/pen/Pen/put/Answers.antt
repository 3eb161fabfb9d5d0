-- No part is told yet; and then one more behind those before it.
use Rattle.outside_io.proofs.SaysLemmas.{says_more, says_silence}
use Rattle.outside_io.proofs.pen.Pen.put.Goals as goal

pub parts-init : goal.parts-init
parts-init g c = says_silence g.K.Sink c.args.sink.now c.args.self.now

pub parts-preserved : goal.parts-preserved
parts-preserved g c = says_more (λ part. part.now) c.args.parts.now c.parts.part-index _ c.parts-test.true c.parts.invariant c.say.ensures
