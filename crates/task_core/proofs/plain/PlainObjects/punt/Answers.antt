use Rattle.std.proofs.Common.{inl}
use Rattle.task_core.proofs.own.PlainCalls.{punted, punted_kept}
use Rattle.task_core.proofs.plain.PlainObjects.punt.Goals as goal

pub returns-clause-serves : goal.returns-clause-serves
returns-clause-serves c =
    inl (punted c.args.self.now c.requires.holds c.args.dev c.requires.fits.0 c.place-at.result c.place-at.ensures c.index_mut.result.now c.index_mut.ensures.value c.add.new.self c.args.moved c.requires.fits.1 c.add.ensures)

pub returns-clause-kept : goal.returns-clause-kept
returns-clause-kept c =
    punted_kept c.args.self.now c.requires.holds c.args.dev c.requires.fits.0 c.place-at.result c.place-at.ensures c.index_mut.result.now c.index_mut.ensures.value c.add.new.self c.args.moved c.requires.fits.1 c.add.ensures
