use Rattle.std.proofs.Common.{rules, IsPermutation, All, inr, arith, ap, sym, subst}
use Rattle.std.proofs.lemmas.List.Sorted.{IsPermutation-refl}
use Rattle.bio_workers.proofs.Dealing.{hand_can, comes_back, back_in_all}
use Rattle.bio_workers.proofs.job.start_one.Goals as goal

pub spawn_with-requires-clause-runs : goal.spawn_with-requires-clause-runs
spawn_with-requires-clause-runs g c κs within =
    let keys = g.J.Job.keys in
    let hand = c.deal-hand.result in (
      hand_can (g.J.Job.can c.args.job.now) (keys c.args.all.now) (keys hand) (keys c.deal-hand.new.all) c.deal-hand.ensures.whole c.requires.can,
      inr (subst (λ worker. All (λ key. g.J.Job.falls c.args.job.now key worker) (keys hand)) (sym c.deal-hand.ensures.holder) c.deal-hand.ensures.own),
    )

pub work-back-requires : goal.work-back-requires
work-back-requires g c κs within =
    let keys = g.J.Job.keys in
    let can = hand_can (g.J.Job.can c.args.job.now) (keys c.args.all.now) (keys c.deal-hand.result) (keys c.deal-hand.new.all) c.deal-hand.ensures.whole c.requires.can in
    let own = subst (λ worker. All (λ key. g.J.Job.falls c.args.job.now key worker) (keys c.deal-hand.result)) (sym c.deal-hand.ensures.holder) c.deal-hand.ensures.own in
    (search rules, (search rules, (search rules, (search rules, rw (c.in-Err.ensures.err) (can, inr own)))))

pub absorb-requires : goal.absorb-requires
absorb-requires g c =
    let keys = g.J.Job.keys in
    let same = ap (λ w. w.2) c.in-Err.ensures.err in
    let few = c.requires.few in
    let whole = back_in_all (keys c.args.all.now) (keys c.deal-hand.result) (keys c.deal-hand.new.all) (keys c.work-back.result) c.deal-hand.ensures.whole
    (subst (λ h. IsPermutation (keys h) (keys c.work-back.result)) same c.work-back.ensures) in
    omega arith

pub returns-in-Err-clause-refused : goal.returns-in-Err-clause-refused
returns-in-Err-clause-refused g c =
    let keys = g.J.Job.keys in
    let same = ap (λ w. w.2) c.in-Err.ensures.err in
    comes_back (keys c.args.all.now) (keys c.deal-hand.result) (keys c.deal-hand.new.all) (keys c.work-back.result) (keys c.deal-hand.new.all) (keys c.absorb.new.hand) c.deal-hand.ensures.whole
    (subst (λ h. IsPermutation (keys h) (keys c.work-back.result)) same c.work-back.ensures) (IsPermutation-refl (keys c.deal-hand.new.all)) c.absorb.ensures.whole
