use Rattle.std.proofs.Common.{◌++◌, IsPermutation, map, subst}
use Rattle.std.proofs.lemmas.List.{map-append}
use Rattle.std.proofs.lemmas.List.Sorted.{IsPermutation-map}
use Rattle.bio_workers.proofs.shift.ShiftJobHand.absorb.Goals as goal

pub returns-clause-whole : goal.returns-clause-whole
returns-clause-whole g c =
    let key = g.W.Work.key in
    let tasks = c.args.hand.now.tasks in
    subst (λ l. IsPermutation l (map key c.join.new.tasks)) (map-append key c.args.other.tasks tasks)
    (IsPermutation-map key (c.args.other.tasks ++ tasks) c.join.new.tasks c.join.ensures)
