use Rattle.task_steps.proofs.submission.dispatch.copy.Goals as goal

pub returns-in-Punts-clause-does : goal.returns-in-Punts-clause-does
returns-in-Punts-clause-does g c = rw c.in-Punts.is (c.punt_to_copy.ensures.does c.args.routes.now)
