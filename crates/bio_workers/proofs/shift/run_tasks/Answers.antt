use Rattle.std.proofs.Common.{map, arith}
use Rattle.std.proofs.lemmas.List.{length-map}
use Rattle.std.proofs.lemmas.List.Sorted.{All-permutation}
use Rattle.bio_workers.proofs.shift.run_tasks.Goals as goal

pub run-tasks-requires-room-J-Job : goal.run-tasks-requires-room-J-Job
run-tasks-requires-room-J-Job g c κs within = c.requires.size.0

pub run-tasks-requires-room-H-Destruct : goal.run-tasks-requires-room-H-Destruct
run-tasks-requires-room-H-Destruct g c κs within = c.requires.size.0

pub run-tasks-requires-clause-few : goal.run-tasks-requires-clause-few
run-tasks-requires-clause-few g c κs within =
    let few = c.len-count.ensures.few in
    let same = c.len-count.ensures.same in
    omega (arith, length-map c.args.tasks g.W.Work.key)

pub finish-requires : goal.finish-requires
finish-requires g c =
    let key = g.W.Work.key in
    (c.requires.size.1, All-permutation (g.W.Work.can c.args.work.now) (map key c.args.tasks) (map key c.run-tasks.result.tasks) c.run-tasks.ensures c.requires.can)
