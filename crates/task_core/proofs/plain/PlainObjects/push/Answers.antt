use Rattle.std.proofs.Common.{inl, ap, ◌∙◌, slice_index_or}
use Rattle.stack_base.specs.declared.ids.DevId.{DevId}
use Rattle.bio_records.specs.Items.{item_of}
use Rattle.task_core.proofs.own.PlainCalls.{push_within, push_served, push_kept}
use Rattle.task_core.proofs.plain.PlainObjects.push.Goals as goal

pub push-requires-clause-within : goal.push-requires-clause-within
push-requires-clause-within c =
    push_within c.args.self.now c.requires.holds (item_of c.args.el) c.requires.fits c.place-at.result
    (c.place-at.ensures ∙ ap (λ (d : DevId). slice_index_or c.args.self.now.index.disks d.0 0) c.dev_of.ensures) c.index_mut.result.now c.index_mut.ensures.value

pub returns-clause-serves : goal.returns-clause-serves
returns-clause-serves c =
    inl (push_served c.args.self.now c.requires.holds (item_of c.args.el) c.requires.fits c.place-at.result
    (c.place-at.ensures ∙ ap (λ (d : DevId). slice_index_or c.args.self.now.index.disks d.0 0) c.dev_of.ensures) c.index_mut.result.now c.index_mut.ensures.value c.push.new.self c.push.ensures)

pub returns-clause-kept : goal.returns-clause-kept
returns-clause-kept c =
    push_kept c.args.self.now c.requires.holds (item_of c.args.el) c.requires.fits c.place-at.result
    (c.place-at.ensures ∙ ap (λ (d : DevId). slice_index_or c.args.self.now.index.disks d.0 0) c.dev_of.ensures) c.index_mut.result.now c.index_mut.ensures.value c.push.new.self c.push.ensures
