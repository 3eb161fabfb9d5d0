use Rattle.task_steps.proofs.submission.dispatch.drive.Goals as goal

pub returns-in-ToRecord-clause-does : goal.returns-in-ToRecord-clause-does
returns-in-ToRecord-clause-does g c = rw c.in-ToRecord.is (c.take_record.ensures.does c.args.routes.now)
