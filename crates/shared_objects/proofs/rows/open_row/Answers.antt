use Rattle.std.proofs.Common.{rules, arith, ◌≡◌, ◌++◌, ◌∷◌, [], sym, subst}
use Rattle.shared_objects.specs.Rows.{AbreastThree, IsLockOf}
use Rattle.shared_objects.proofs.row_lemmas.GrowingRows.{three_more, part_more, part_all}
use Rattle.shared_objects.proofs.rows.open_row.Goals as goal

pub opening-preserved : goal.opening-preserved
opening-preserved g c =
    let locks : c.push.new.self.items ≡ c.opening.locks.items ++ c.in_ok-lock.lock ∷ [] = search rules in
    let firsts : c.push-in-opening.new.self.items ≡ c.opening.firsts.items ++ c.in_ok-lock.first ∷ [] = search rules in
    part_more c.args.things.items c.opening.entry-iterator.rest.items c.next.new.self.rest.items c.in-Some.entry
    (λ done. AbreastThree IsLockOf done c.opening.locks.items c.opening.firsts.items) (λ done. AbreastThree IsLockOf done c.push.new.self.items c.push-in-opening.new.self.items)
    c.opening.invariant c.in-Some.ensures.steps.0
    (λ done whole are. subst (λ l. AbreastThree IsLockOf (done ++ c.in-Some.entry ∷ []) l c.push-in-opening.new.self.items) (sym locks)
    (subst (λ f. AbreastThree IsLockOf (done ++ c.in-Some.entry ∷ []) (c.opening.locks.items ++ c.in_ok-lock.lock ∷ []) f) (sym firsts)
    (three_more IsLockOf done c.opening.locks.items c.opening.firsts.items c.in-Some.entry c.in_ok-lock.lock c.in_ok-lock.first are c.in_ok-lock.ensures)))

pub returns : goal.returns
returns g c =
    part_all c.args.things.items c.opening.entry-iterator.rest.items (λ done. AbreastThree IsLockOf done c.opening.locks.items c.opening.firsts.items) c.opening.invariant
    (let none = c.in-None.ensures.steps.0 in let long = c.opening.entry-iterator.rest.ok.0 in omega (arith, none, long))
