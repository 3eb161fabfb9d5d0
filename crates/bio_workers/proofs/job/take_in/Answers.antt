use Rattle.std.proofs.Common.{arith}
use Rattle.std.proofs.lemmas.List.Sorted.{length_permutation}
use Rattle.bio_workers.proofs.Dealing.{comes_in}
use Rattle.bio_workers.proofs.job.take_in.Goals as goal

pub absorb-requires : goal.absorb-requires
absorb-requires g c =
    let keys = g.J.Job.keys in
    let few = c.requires in
    let back = length_permutation (keys c.args.child.promise.hand.value) (keys c.join-back.result) c.join-back.ensures in
    omega arith

pub returns : goal.returns
returns g c =
    let keys = g.J.Job.keys in
    comes_in (keys c.args.child.promise.hand.value) (keys c.join-back.result) (keys c.args.all.now) (keys c.absorb.new.hand) c.join-back.ensures c.absorb.ensures.whole
