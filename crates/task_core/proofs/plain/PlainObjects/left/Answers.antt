use Rattle.std.proofs.Common.{inl, refl}
use Rattle.task_core.proofs.plain.PlainObjects.left.Goals as goal

pub returns-clause-serves : goal.returns-clause-serves
returns-clause-serves c = inl (c.left.ensures, refl)
