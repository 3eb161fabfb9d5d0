use Rattle.std.proofs.Common.{inl, inr, ap, sym, refl, ◌∙◌, arith}
use Rattle.bio_records.specs.Items.{item_of}
use Rattle.model_disks.specs.Disks.{waiting_count}
use Rattle.task_core.proofs.own.PlainCalls.{waiting_in, nothing_waits, complete_served, complete_owed, complete_kept}
use Rattle.task_core.proofs.plain.PlainObjects.complete.Goals as goal

pub returns-then-pending-eq0-clause-serves : goal.returns-then-pending-eq0-clause-serves
returns-then-pending-eq0-clause-serves g c =
    inl (nothing_waits c.args.self.now c.requires.holds c.args.disk c.requires.fits c.place-at.result c.place-at.ensures c.index.result.now c.index.ensures
    (sym c.pending-pending.ensures ∙ c.if-pending-eq0.true))

pub returns-clause-serves : goal.returns-clause-serves
returns-clause-serves g c =
    inl (complete_served c.args.self.now c.requires.holds c.args.disk c.requires.fits c.place-at.result c.place-at.ensures c.index_mut.result.now c.index_mut.ensures.value c.choose-index.result (item_of c.complete.result.el)
    c.complete.result.status c.complete.new.self c.complete.ensures.completes)

pub returns-clause-owed : goal.returns-clause-owed
returns-clause-owed g c =
    complete_owed c.args.self.now c.requires.holds c.args.disk c.requires.fits c.place-at.result c.place-at.ensures c.index_mut.result.now c.index_mut.ensures.value c.choose-index.result (item_of c.complete.result.el)
    c.complete.result.status c.complete.new.self c.complete.ensures.completes

pub returns-then-pending-eq0-clause-chosen : goal.returns-then-pending-eq0-clause-chosen
returns-then-pending-eq0-clause-chosen g c = (
  c.pending-pending.result,
  c.pending-pending.ensures ∙ ap waiting_count (sym (waiting_in c.args.self.now c.requires.holds c.args.disk c.requires.fits c.place-at.result c.place-at.ensures c.index.result.now c.index.ensures)),
  inl (c.if-pending-eq0.true, refl, refl),
)

pub returns-clause-chosen : goal.returns-clause-chosen
returns-clause-chosen g c =
    let found = c.pending-pending.ensures ∙ ap waiting_count (sym (waiting_in c.args.self.now c.requires.holds c.args.disk c.requires.fits c.place-at.result c.place-at.ensures c.index.result.now c.index.ensures)) in (
      c.pending-pending.result,
      found,
      inr (omega (arith, c.if-pending-eq0.false), (c.choose-index.result, c.choose-index.ensures.chooses, (found, refl))),
    )

pub returns-clause-kept : goal.returns-clause-kept
returns-clause-kept g c =
    complete_kept c.args.self.now c.requires.holds c.args.disk c.requires.fits c.place-at.result c.place-at.ensures c.index_mut.result.now c.index_mut.ensures.value c.choose-index.result (item_of c.complete.result.el)
    c.complete.result.status c.complete.new.self c.complete.ensures.completes
