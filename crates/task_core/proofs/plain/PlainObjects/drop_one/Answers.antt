use Rattle.std.proofs.Common.{inl}
use Rattle.bio_books.specs.Views.{bio_of, drop_outcome_of}
use Rattle.task_core.proofs.own.PlainCalls.{drop_served, drop_owed, drop_kept}
use Rattle.task_core.proofs.plain.PlainObjects.drop_one.Goals as goal

pub returns-clause-serves : goal.returns-clause-serves
returns-clause-serves c =
    inl (drop_served c.args.self.now c.requires.holds c.args.writer c.requires.fits.0 c.place-at.result c.place-at.ensures c.index_mut.result.now c.index_mut.ensures.value c.drop_one.new.self c.args.node c.args.status (bio_of c.args.part) c.requires.fits.1
    (drop_outcome_of c.drop_one.result) c.drop_one.ensures.drops)

pub returns-clause-owed : goal.returns-clause-owed
returns-clause-owed c =
    drop_owed c.args.self.now c.requires.holds c.args.writer c.requires.fits.0 c.place-at.result c.place-at.ensures c.index_mut.result.now c.index_mut.ensures.value c.drop_one.new.self c.args.node c.args.status (bio_of c.args.part) c.requires.fits.1
    (drop_outcome_of c.drop_one.result) c.drop_one.ensures.drops

pub returns-clause-kept : goal.returns-clause-kept
returns-clause-kept c =
    drop_kept c.args.self.now c.requires.holds c.args.writer c.requires.fits.0 c.place-at.result c.place-at.ensures c.index_mut.result.now c.index_mut.ensures.value c.drop_one.new.self c.args.node c.args.status (bio_of c.args.part) c.requires.fits.1
    (drop_outcome_of c.drop_one.result) c.drop_one.ensures.drops
