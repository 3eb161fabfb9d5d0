use Rattle.std.proofs.Common.{inl, ap, ◌∙◌, slice_index_or}
use Rattle.bio_records.specs.Items.{item_of}
use Rattle.task_core.proofs.own.PlainGives.{bio_goes_home, bio_given, bio_given_kept}
use Rattle.task_core.proofs.plain.PlainObjects.give_bio.Goals as goal

pub give-requires : goal.give-requires
give-requires c = bio_goes_home c.args.self.now c.requires.holds (item_of c.args.el) c.requires.fits c.place-at.result
    (c.place-at.ensures ∙ ap (λ n. slice_index_or c.args.self.now.index.bios n 0) c.no.ensures) c.index_mut.result.now c.index_mut.ensures.value

pub returns-clause-serves : goal.returns-clause-serves
returns-clause-serves c = inl (bio_given c.args.self.now c.requires.holds (item_of c.args.el) c.requires.fits c.place-at.result
    (c.place-at.ensures ∙ ap (λ n. slice_index_or c.args.self.now.index.bios n 0) c.no.ensures) c.index_mut.result.now c.index_mut.ensures.value c.give.new.self c.give.ensures.gives)

pub returns-clause-kept : goal.returns-clause-kept
returns-clause-kept c = bio_given_kept c.args.self.now c.requires.holds (item_of c.args.el) c.requires.fits c.place-at.result
    (c.place-at.ensures ∙ ap (λ n. slice_index_or c.args.self.now.index.bios n 0) c.no.ensures) c.index_mut.result.now c.index_mut.ensures.value c.give.new.self c.give.ensures.gives
