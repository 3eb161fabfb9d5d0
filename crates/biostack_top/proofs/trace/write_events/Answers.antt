-- The lines are said, and the trace is ended.
use Rattle.outside_io.proofs.SaysLemmas.{finished}
use Rattle.biostack_top.proofs.trace.write_events.Goals as goal

pub returns-clause-written : goal.returns-clause-written
returns-clause-written g c = finished c.finish.result c.new-pen.ensures c.write_lines.ensures.says c.finish.ensures.says c.finish.ensures.handed c.finish.ensures.failed
