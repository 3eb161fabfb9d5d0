use Rattle.std.proofs.Common.{inl}
use Rattle.task_core.proofs.own.PlainCalls.{popped_served, popped_owed, popped_kept}
use Rattle.task_core.proofs.plain.PlainObjects.pop.Goals as goal

pub returns-clause-serves : goal.returns-clause-serves
returns-clause-serves c =
    inl (popped_served c.args.self.now c.requires.holds c.args.dev c.requires.fits c.place-at.result c.place-at.ensures c.index_mut.result.now c.index_mut.ensures.value c.pop.new.self c.pop.result c.pop.ensures.bios)

pub returns-clause-owed : goal.returns-clause-owed
returns-clause-owed c =
    popped_owed c.args.self.now c.requires.holds c.args.dev c.requires.fits c.place-at.result c.place-at.ensures c.index_mut.result.now c.index_mut.ensures.value c.pop.new.self c.pop.result c.pop.ensures.bios

pub returns-clause-kept : goal.returns-clause-kept
returns-clause-kept c =
    popped_kept c.args.self.now c.requires.holds c.args.dev c.requires.fits c.place-at.result c.place-at.ensures c.index_mut.result.now c.index_mut.ensures.value c.pop.new.self c.pop.result c.pop.ensures.bios
