use Rattle.std.proofs.Common.{inl}
use Rattle.bio_books.specs.Views.{linked_of}
use Rattle.task_steps.specs.Views.{opening_of}
use Rattle.task_core.proofs.own.PlainCalls.{link_served, link_owed, link_kept}
use Rattle.task_core.proofs.plain.PlainObjects.link.Goals as goal

pub returns-clause-serves : goal.returns-clause-serves
returns-clause-serves c =
    inl (link_served c.args.self.now c.requires.holds c.args.writer c.requires.fits.0 c.place-at.result c.place-at.ensures c.index_mut.result.now c.index_mut.ensures.value c.link_in.new.book (opening_of c.args.ask) c.requires.fits.1
    (linked_of c.link_in.result) c.link_in.ensures.opened)

pub returns-clause-owed : goal.returns-clause-owed
returns-clause-owed c =
    link_owed c.args.self.now c.requires.holds c.args.writer c.requires.fits.0 c.place-at.result c.place-at.ensures c.index_mut.result.now c.index_mut.ensures.value c.link_in.new.book (opening_of c.args.ask) c.requires.fits.1
    (linked_of c.link_in.result) c.link_in.ensures.opened

pub returns-clause-kept : goal.returns-clause-kept
returns-clause-kept c =
    link_kept c.args.self.now c.requires.holds c.args.writer c.requires.fits.0 c.place-at.result c.place-at.ensures c.index_mut.result.now c.index_mut.ensures.value c.link_in.new.book (opening_of c.args.ask) c.requires.fits.1
    (linked_of c.link_in.result) c.link_in.ensures.opened
