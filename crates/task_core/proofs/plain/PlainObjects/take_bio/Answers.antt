use Rattle.std.proofs.Common.{inl, ap, ◌∙◌, slice_index_or}
use Rattle.task_core.proofs.own.PlainTakes.{bio_served, bio_owed, bio_kept}
use Rattle.task_core.proofs.plain.PlainObjects.take_bio.Goals as goal

-- src/plain.rt
pub returns-clause-serves : goal.returns-clause-serves
returns-clause-serves c =
    inl (bio_served c.args.self.now c.requires.holds c.args.set c.args.waits c.requires.fits c.place-at.result
    (c.place-at.ensures ∙ ap (λ n. slice_index_or c.args.self.now.index.bios n 0) c.bios_number.ensures)
    c.index_mut.result.now c.index_mut.ensures.value c.take.result c.take.new.self c.take.ensures.takes)

pub returns-clause-owed : goal.returns-clause-owed
returns-clause-owed c =
    bio_owed c.args.self.now c.requires.holds c.args.set c.args.waits c.requires.fits c.place-at.result
    (c.place-at.ensures ∙ ap (λ n. slice_index_or c.args.self.now.index.bios n 0) c.bios_number.ensures)
    c.index_mut.result.now c.index_mut.ensures.value c.take.result c.take.new.self c.take.ensures.takes

pub returns-clause-kept : goal.returns-clause-kept
returns-clause-kept c =
    bio_kept c.args.self.now c.requires.holds c.args.set c.args.waits c.requires.fits c.place-at.result
    (c.place-at.ensures ∙ ap (λ n. slice_index_or c.args.self.now.index.bios n 0) c.bios_number.ensures)
    c.index_mut.result.now c.index_mut.ensures.value c.take.result c.take.new.self c.take.ensures.takes
