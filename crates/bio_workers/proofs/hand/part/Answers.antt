use Rattle.std.proofs.Common.{◌≡◌, ◌++◌, ◌∷◌, ◌%◌, [], option_to_list, arith, ap, ◌∙◌}
use Rattle.bio_workers.proofs.Dealing.{one_less}
use Rattle.bio_workers.proofs.Parts.{parts, as_many, all_back, others_back}
use Rattle.bio_workers.proofs.hand.part.Goals as goal

pub parting-preserved : goal.parting-preserved
parting-preserved g c =
    let IsOwn : g.row.T.Denot → Type 0 = λ t. g.W.Work.number (g.W.Work.key t) % c.args.workers ≡ c.args.worker in
    let split : c.parting.tasks ≡ c.pop.new.self ++ c.in-Some.task ∷ [] = c.pop.ensures.last ∙ ap (λ r. c.pop.new.self ++ option_to_list r) c.in-Some.is in
    let less = one_less c.parting.tasks c.pop.new.self c.in-Some.task split in
    let more = as_many IsOwn c.parting.own c.parting.others c.put_by.new.own c.put_by.new.others c.in-Some.task c.put_by.ensures in
    let counted = c.parting.invariant.1 in
    let room = c.parting.invariant.2 in (
      parts IsOwn c.args.tasks.now c.parting.own c.parting.others c.parting.tasks c.pop.new.self c.put_by.new.own c.put_by.new.others c.in-Some.task split c.parting.invariant.0 c.put_by.ensures,
      omega arith,
      omega arith,
    )

pub returns-clause-all : goal.returns-clause-all
returns-clause-all g c =
    all_back (λ t. g.W.Work.number (g.W.Work.key t) % c.args.workers ≡ c.args.worker) c.args.tasks.now c.parting.own c.parting.others c.parting.tasks c.join.new.tasks
    c.parting.invariant.0 c.join.ensures

pub returns-clause-others : goal.returns-clause-others
returns-clause-others g c =
    let counted = c.parting.invariant.1 in
    let same = c.len-count.ensures.same in
    let end = c.parting.auto.done-end in
    let over = c.parting-test.false in
    others_back (λ t. g.W.Work.number (g.W.Work.key t) % c.args.workers ≡ c.args.worker) c.args.tasks.now c.parting.own c.parting.others c.parting.tasks c.join.new.tasks
    c.parting.invariant.0 (omega arith) c.join.ensures
