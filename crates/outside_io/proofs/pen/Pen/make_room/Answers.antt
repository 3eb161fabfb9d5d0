-- A buffer that is not full is left as it is.
use Rattle.outside_io.proofs.SaysLemmas.{says_silence}
use Rattle.outside_io.proofs.pen.Pen.make_room.Goals as goal

pub returns-else-is_full-clause-says : goal.returns-else-is_full-clause-says
returns-else-is_full-clause-says g c = says_silence g.K.Sink c.args.sink.now c.args.self.now
