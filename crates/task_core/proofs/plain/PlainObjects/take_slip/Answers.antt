use Rattle.std.proofs.Common.{inl, ap, ◌∙◌, slice_index_or}
use Rattle.task_core.proofs.own.PlainTakes.{slip_served, slip_owed, slip_kept}
use Rattle.task_core.proofs.plain.PlainObjects.take_slip.Goals as goal

pub returns-clause-serves : goal.returns-clause-serves
returns-clause-serves c = inl (slip_served c.args.self.now c.requires.holds c.args.dev c.requires.fits c.place-at.result
    (c.place-at.ensures ∙ ap (λ n. slice_index_or c.args.self.now.index.records n 0) c.no.ensures)
    c.index_mut.result.now c.index_mut.ensures.value c.take.result c.take.new.self c.take.ensures.takes)

pub returns-clause-owed : goal.returns-clause-owed
returns-clause-owed c = slip_owed c.args.self.now c.requires.holds c.args.dev c.requires.fits c.place-at.result
    (c.place-at.ensures ∙ ap (λ n. slice_index_or c.args.self.now.index.records n 0) c.no.ensures)
    c.index_mut.result.now c.index_mut.ensures.value c.take.result c.take.new.self c.take.ensures.takes

pub returns-clause-kept : goal.returns-clause-kept
returns-clause-kept c = slip_kept c.args.self.now c.requires.holds c.args.dev c.requires.fits c.place-at.result
    (c.place-at.ensures ∙ ap (λ n. slice_index_or c.args.self.now.index.records n 0) c.no.ensures)
    c.index_mut.result.now c.index_mut.ensures.value c.take.result c.take.new.self c.take.ensures.takes
