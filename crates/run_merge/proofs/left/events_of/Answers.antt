use Rattle.std.proofs.Common.{arith}
use Rattle.std.proofs.lemmas.List.Sums.{sum_by_more}
use Rattle.shared_objects.specs.declared.closed.ClosedTask.{ClosedTask}
use Rattle.run_merge.proofs.left.events_of.Goals as goal

-- src/left.rt
pub adding-preserved : goal.adding-preserved
adding-preserved c =
    let so_far = c.adding.invariant in
    let sum = c.saturating_add-sum.ensures in
    let here = c.events.ensures in
    let more = sum_by_more (λ (task : ClosedTask). task.events) c.args.tasks.now c.adding.place c.index-tasks-place.result c.adding-test.true in
    grind (arith, so_far, sum, here, more)
