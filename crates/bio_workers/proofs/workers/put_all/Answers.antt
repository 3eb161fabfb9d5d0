use Rattle.std.proofs.Common.{◌≡◌, ◌++◌, ◌∷◌, [], List, Some, true, map, option_to_list, ap, sym, subst, ◌∙◌}
use Rattle.std.proofs.lemmas.List.{map-append}
use Rattle.std.proofs.lemmas.List.Elements.{All-pop}
use Rattle.shared_objects.specs.Rans.{RanKey, RanState, ran_key}
use Rattle.bio_workers.specs.Hands.{AreOut}
use Rattle.bio_workers.proofs.Hands.{puts_one, last_is_out, then_same}
use Rattle.bio_workers.proofs.workers.put_all.Goals as goal

pub put_task-requires-clause-out : goal.put_task-requires-clause-out
put_task-requires-clause-out c =
    let rest = c.pop.new.self in
    let task = c.in-Some.task in
    let split = c.pop.ensures.last ∙ ap (λ r. rest ++ option_to_list r) c.in-Some.is in
    last_is_out c.loop-task.shared (map ran_key rest) task
    (subst (λ (l : List RanKey). AreOut c.loop-task.shared l) (ap (map ran_key) split ∙ map-append ran_key rest (task ∷ [])) c.loop-task.invariant.1)

pub loop-task-preserved : goal.loop-task-preserved
loop-task-preserved c =
    let old = c.loop-task.shared in
    let new = c.put_task.new.self in
    let rest = c.pop.new.self in
    let task = c.in-Some.task in
    let back = c.put_task.ensures.back in
    let split = c.pop.ensures.last ∙ ap (λ r. rest ++ option_to_list r) c.in-Some.is in
    let are = subst (λ (l : List RanKey). AreOut old l) (ap (map ran_key) split ∙ map-append ran_key rest (task ∷ [])) c.loop-task.invariant.1 in
    let stopped = All-pop (λ (ran : RanState). ran.stopped ≡ true) c.loop-task.tasks rest (Some task) split c.loop-task.invariant.2 in
    let next = back.next in
    let many = back.same.many in
    let all = c.loop-task.invariant.4 in (
      c.put_task.ensures.holds,
      puts_one old new task back (map ran_key rest) c.loop-task.invariant.0.next stopped.1 are,
      stopped.0,
      then_same c.args.shared.now old new c.loop-task.invariant.3 back.same,
      next ∙ all ∙ sym many,
    )
