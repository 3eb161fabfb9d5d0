use Rattle.std.proofs.Common.{inl, ap}
use Rattle.task_core.specs.Plains.{objects_of}
use Rattle.task_core.proofs.plain.PlainObjects.done.Goals as goal

pub returns-clause-serves : goal.returns-clause-serves
returns-clause-serves c = inl (ap (λ tally. record (objects_of c.args.self.now) { tally = tally }) c.done.ensures)
