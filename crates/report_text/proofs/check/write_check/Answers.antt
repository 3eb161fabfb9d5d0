-- The lines of the devices are said, and then the last line.
use Rattle.outside_io.proofs.SaysLemmas.{says_then, finished}
use Rattle.report_text.proofs.check.write_check.Goals as goal

pub returns : goal.returns
returns g c = finished c.finish.result c.new-pen.ensures (says_then c.device_lines.ensures c.need_line.ensures) c.finish.ensures.says c.finish.ensures.handed c.finish.ensures.failed
