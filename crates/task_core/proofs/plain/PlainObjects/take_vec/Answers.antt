use Rattle.std.proofs.Common.{inl}
use Rattle.task_core.proofs.own.PlainTakes.{vec_served, vec_owed, vec_kept}
use Rattle.task_core.proofs.plain.PlainObjects.take_vec.Goals as goal

pub returns-clause-serves : goal.returns-clause-serves
returns-clause-serves c = inl (vec_served c.args.self.now c.requires.holds c.take.result c.take.new.self c.take.ensures.takes)

pub returns-clause-owed : goal.returns-clause-owed
returns-clause-owed c = vec_owed c.args.self.now c.requires.holds c.take.result c.take.new.self c.take.ensures.takes

pub returns-clause-kept : goal.returns-clause-kept
returns-clause-kept c = vec_kept c.args.self.now c.requires.holds c.take.result c.take.new.self c.take.ensures.takes
