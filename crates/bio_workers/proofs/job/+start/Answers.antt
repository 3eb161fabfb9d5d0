use Rattle.std.proofs.Common.{arith}
use Rattle.std.proofs.lemmas.List.Sorted.{IsPermutation-refl, IsPermutation-trans, length_permutation}
use Rattle.bio_workers.proofs.Dealing.{started_with, dealt, rest_can, in_all, comes_back}
use Rattle.bio_workers.proofs.job.+start.Goals as goal

pub start-requires-clause-can : goal.start-requires-clause-can
start-requires-clause-can g t c κs within =
    let keys = g.J.Job.keys in
    let all = keys c.args.all.now in
    let rest = keys c.start_one-started.new.all in
    let started = c.start_one-started.result in
    rest_can (g.J.Job.can c.args.job.now) all (started_with (λ h. keys h.promise.hand.value) started) rest (dealt (λ h. keys h.promise.hand.value) started all rest c.start_one-started.ensures.started c.start_one-started.ensures.refused) c.requires.can

pub start-requires-clause-few : goal.start-requires-clause-few
start-requires-clause-few g t c κs within =
    let keys = g.J.Job.keys in
    let all = keys c.args.all.now in
    let rest = keys c.start_one-started.new.all in
    let started = c.start_one-started.result in
    let whole = in_all all (started_with (λ h. keys h.promise.hand.value) started) rest (dealt (λ h. keys h.promise.hand.value) started all rest c.start_one-started.ensures.started c.start_one-started.ensures.refused) in
    let few = c.requires.few in
    omega arith

pub take_in-requires : goal.take_in-requires
take_in-requires g t c =
    let keys = g.J.Job.keys in
    let rest = keys c.start_one-started.new.all in
    let whole = in_all (keys c.args.all.now) (keys c.in-Some.child.promise.hand.value) rest c.in-Some.ensures.started in
    let done = length_permutation rest (keys c.start.new.all) c.start.ensures in
    let few = c.requires.few in
    omega arith

pub returns-in-Some : goal.returns-in-Some
returns-in-Some g t c =
    let keys = g.J.Job.keys in
    let hand = keys c.in-Some.child.promise.hand.value in
    comes_back (keys c.args.all.now) hand (keys c.start_one-started.new.all) hand (keys c.start.new.all) (keys c.take_in.new.all) c.in-Some.ensures.started (IsPermutation-refl hand) c.start.ensures c.take_in.ensures

pub returns-in-None : goal.returns-in-None
returns-in-None g t c =
    let keys = g.J.Job.keys in
    IsPermutation-trans (keys c.args.all.now) (keys c.start_one-started.new.all) (keys c.start.new.all) c.in-None.ensures.refused c.start.ensures
