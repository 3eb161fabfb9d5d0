use Rattle.std.proofs.Common.{inl, ap, ◌∙◌, slice_index_or}
use Rattle.task_core.proofs.own.PlainResizes.{bios_within, bios_resized, bios_resized_kept}
use Rattle.task_core.proofs.plain.Plain.resize_bios.Goals as goal

pub resize_home-requires-clause-within : goal.resize_home-requires-clause-within
resize_home-requires-clause-within c =
    bios_within c.args.self.now c.requires.holds c.args.set c.args.min c.requires.fits c.place-at.result
    (c.place-at.ensures ∙ ap (λ n. slice_index_or c.args.self.now.index.bios n 0) c.bios_number.ensures)
    c.index_mut.result.now c.index_mut.ensures.value

pub returns-clause-serves : goal.returns-clause-serves
returns-clause-serves c =
    inl (bios_resized c.args.self.now c.requires.holds c.args.set c.args.min c.requires.fits c.place-at.result
    (c.place-at.ensures ∙ ap (λ n. slice_index_or c.args.self.now.index.bios n 0) c.bios_number.ensures)
    c.index_mut.result.now c.index_mut.ensures.value c.resize_home.result c.resize_home.new.pool c.resize_home.ensures)

pub returns-clause-kept : goal.returns-clause-kept
returns-clause-kept c =
    bios_resized_kept c.args.self.now c.requires.holds c.args.set c.args.min c.requires.fits c.place-at.result
    (c.place-at.ensures ∙ ap (λ n. slice_index_or c.args.self.now.index.bios n 0) c.bios_number.ensures)
    c.index_mut.result.now c.index_mut.ensures.value c.resize_home.result c.resize_home.new.pool c.resize_home.ensures
