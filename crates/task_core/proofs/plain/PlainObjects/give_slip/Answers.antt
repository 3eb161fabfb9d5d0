use Rattle.std.proofs.Common.{inl, ap, ◌∙◌, slice_index_or}
use Rattle.bio_books.specs.Views.{slip_item}
use Rattle.task_core.proofs.own.PlainGives.{slip_goes_home, slip_given, slip_given_kept}
use Rattle.task_core.proofs.plain.PlainObjects.give_slip.Goals as goal

pub give-requires : goal.give-requires
give-requires c = slip_goes_home c.args.self.now c.requires.holds (slip_item c.args.el) c.requires.fits c.place-at.result
    (c.place-at.ensures ∙ ap (λ n. slice_index_or c.args.self.now.index.records n 0) c.no.ensures) c.index_mut.result.now c.index_mut.ensures.value

pub returns-clause-serves : goal.returns-clause-serves
returns-clause-serves c = inl (slip_given c.args.self.now c.requires.holds (slip_item c.args.el) c.requires.fits c.place-at.result
    (c.place-at.ensures ∙ ap (λ n. slice_index_or c.args.self.now.index.records n 0) c.no.ensures) c.index_mut.result.now c.index_mut.ensures.value c.give.new.self c.give.ensures.gives)

pub returns-clause-kept : goal.returns-clause-kept
returns-clause-kept c = slip_given_kept c.args.self.now c.requires.holds (slip_item c.args.el) c.requires.fits c.place-at.result
    (c.place-at.ensures ∙ ap (λ n. slice_index_or c.args.self.now.index.records n 0) c.no.ensures) c.index_mut.result.now c.index_mut.ensures.value c.give.new.self c.give.ensures.gives
