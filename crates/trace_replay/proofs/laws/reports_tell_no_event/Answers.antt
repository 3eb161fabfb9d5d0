use Rattle.trace_replay.proofs.ReportLines as lines
use Rattle.trace_replay.proofs.laws.reports_tell_no_event.Goals as goal

pub returns : goal.returns
returns c = lines.report_none
