use Rattle.std.proofs.Common.{◌+◌, sym, subst, ◌∙◌}
use Rattle.bio_workers.proofs.Sweeps.{IsSwept, over_together, swept_on}
use Rattle.bio_workers.proofs.shift.Shift.sweep.Goals as goal

pub loop-at-preserved : goal.loop-at-preserved
loop-at-preserved g c =
    let before = c.loop-at.invariant in (
      c.visit_at.ensures.keys ∙ before.0,
      λ over.
          let each = over_together c.loop-at.came c.visit_at.result (sym c.and-came.ensures ∙ over) in
          c.visit_at.ensures.over each.1 (before.1 each.0),
      subst (λ came. IsSwept g.W.Work.goes (c.loop-at.at + 1) came c.args.tasks.now c.visit_at.new.self) (sym c.and-came.ensures)
          (swept_on g.W.Work.goes c.loop-at.at c.loop-at.came c.visit_at.result c.args.tasks.now c.loop-at.tasks c.visit_at.new.self before.2 c.visit_at.ensures.visit),
    )
