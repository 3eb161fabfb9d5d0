-- The lines are said, and the text is ended.
use Rattle.outside_io.proofs.SaysLemmas.{finished}
use Rattle.report_text.proofs.layout.write_layout.Goals as goal

pub returns : goal.returns
returns g c = finished c.finish.result c.new-pen.ensures c.fragment_lines.ensures c.finish.ensures.says c.finish.ensures.handed c.finish.ensures.failed
