use Rattle.std.proofs.Common.{◌≡◌, ◌++◌, ◌∷◌, [], option_to_list, arith, ap, ◌∙◌}
use Rattle.std.proofs.lemmas.List.Sorted.{IsPermutation-trans}
use Rattle.bio_workers.proofs.Dealing.{moved, one_less}
use Rattle.bio_workers.proofs.hand.join.Goals as goal

pub loop-task-preserved : goal.loop-task-preserved
loop-task-preserved g c =
    let split : c.loop-task.others ≡ c.pop.new.self ++ c.in-Some.task ∷ [] = c.pop.ensures.last ∙ ap (λ r. c.pop.new.self ++ option_to_list r) c.in-Some.is in
    let less = one_less c.loop-task.others c.pop.new.self c.in-Some.task split in
    let more = one_less c.push.new.self c.loop-task.tasks c.in-Some.task c.push.ensures in
    let room = c.loop-task.invariant.1 in (
      IsPermutation-trans (c.args.others ++ c.args.tasks.now) (c.loop-task.others ++ c.loop-task.tasks) (c.pop.new.self ++ c.push.new.self) c.loop-task.invariant.0
          (moved c.loop-task.others c.pop.new.self c.loop-task.tasks c.push.new.self c.in-Some.task split c.push.ensures),
      omega arith,
    )
