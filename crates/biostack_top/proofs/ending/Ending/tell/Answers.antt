-- The line is said, and the text is ended.
use Rattle.outside_io.proofs.SaysLemmas.{finished}
use Rattle.biostack_top.proofs.ending.Ending.tell.Goals as goal

pub returns : goal.returns
returns g c = finished c.finish.result c.new-pen.ensures c.say.ensures c.finish.ensures.says c.finish.ensures.handed c.finish.ensures.failed
