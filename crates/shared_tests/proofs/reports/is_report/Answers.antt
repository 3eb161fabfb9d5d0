use Rattle.shared_tests.proofs.Told.{few_steps}
use Rattle.shared_tests.proofs.reports.is_report.Goals as goal

pub write_report-written-requires-clause-bound : goal.write_report-written-requires-clause-bound
write_report-written-requires-clause-bound c = few_steps c.args.scene.now.accepted c.args.scene.now.work c.requires.read
