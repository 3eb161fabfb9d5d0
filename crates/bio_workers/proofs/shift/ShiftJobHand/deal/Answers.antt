use Rattle.std.proofs.Common.{◌≡◌, ◌++◌, ◌%◌, IsPermutation, map, subst}
use Rattle.std.proofs.lemmas.List.{map-append}
use Rattle.std.proofs.lemmas.List.Elements.{All-map}
use Rattle.std.proofs.lemmas.List.Sorted.{IsPermutation-map}
use Rattle.bio_workers.proofs.shift.ShiftJobHand.deal.Goals as goal

pub returns-clause-whole : goal.returns-clause-whole
returns-clause-whole g c =
    let key = g.W.Work.key in
    let own = c.part.result in
    let others = c.part.new.tasks in
    let tasks = c.args.all.now.tasks in
    subst (λ l. IsPermutation (map key tasks) l) (map-append key own others) (IsPermutation-map key tasks (own ++ others) c.part.ensures.all)

pub returns-clause-own : goal.returns-clause-own
returns-clause-own g c =
    All-map (λ k. g.W.Work.number k % c.args.self.now.workers ≡ c.args.worker) g.W.Work.key c.part.result c.part.ensures.own

pub returns-clause-others : goal.returns-clause-others
returns-clause-others g c =
    All-map (λ k. g.W.Work.number k % c.args.self.now.workers ≡ c.args.worker → ⊥) g.W.Work.key c.part.new.tasks c.part.ensures.others
