use Rattle.std.proofs.Common.{◌∷◌, [], List, length, map, arith, ap, sym, subst, ◌∙◌}
use Rattle.std.proofs.lemmas.List.{length-append, map-append}
use Rattle.shared_objects.specs.Rans.{RanState, ran_key}
use Rattle.shared_objects.specs.Shared.{SameShared}
use Rattle.bio_workers.specs.Hands.{AreOut}
use Rattle.bio_workers.proofs.Hands.{takes_one, none_is_out, same_shared, then_same}
use Rattle.bio_workers.proofs.workers.take_all.Goals as goal

pub loop-task-init : goal.loop-task-init
loop-task-init c = (
  c.requires.holds,
  subst (λ (tasks : List RanState). AreOut c.args.shared.now (map ran_key tasks)) (sym c.new-tasks.ensures) (none_is_out c.args.shared.now c.requires.untaken),
  same_shared c.args.shared.now,
  ap length c.new-tasks.ensures ∙ sym c.requires.untaken,
)

pub loop-task-preserved : goal.loop-task-preserved
loop-task-preserved c =
    let old = c.loop-task.shared in
    let new = c.take_task.new.self in
    let task = c.in-Some.task in
    let tasks = c.loop-task.tasks in
    let out = c.in-Some.ensures.task in
    let next = out.next in
    let many = c.loop-task.invariant.3 in
    let longer = ap length c.push.ensures ∙ length-append tasks (task ∷ []) in (
      c.take_task.ensures.holds,
      subst (λ (l : List _). AreOut new l) (sym (ap (map ran_key) c.push.ensures ∙ map-append ran_key tasks (task ∷ []))) (takes_one old new task out (map ran_key tasks) c.loop-task.invariant.1),
      then_same c.args.shared.now old new c.loop-task.invariant.2 out.same,
      omega (arith, next, many, longer),
    )

pub returns-clause-same : goal.returns-clause-same
returns-clause-same c = subst (λ shared. SameShared c.args.shared.now shared) (sym (c.take_task.ensures.same c.in_default.is)) c.loop-task.invariant.2
