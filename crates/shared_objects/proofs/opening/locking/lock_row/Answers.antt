use Rattle.std.proofs.lemmas.Result.{IfOk-weaker}
use Rattle.shared_objects.specs.Opening.{IsFirstAt}
use Rattle.shared_objects.specs.Rows.{Abreast, AbreastThree, IsLockOf}
use Rattle.shared_objects.specs.Sharing.{AreAround}
use Rattle.shared_objects.proofs.sharing.FirstSeats.{firsts_of, round_things}
use Rattle.shared_objects.proofs.opening.locking.lock_row.Goals as goal

pub returns-clause-round : goal.returns-clause-round
returns-clause-round g c =
    IfOk-weaker c.open_row.result (λ made. AbreastThree IsLockOf c.args.things.items made.0.items made.1.items) (λ made. AreAround (λ thing. thing) c.args.things.items made.0.items)
    (λ made are. round_things c.args.things.items made.0.items made.1.items are) c.open_row.ensures

pub returns-clause-firsts : goal.returns-clause-firsts
returns-clause-firsts g c =
    IfOk-weaker c.open_row.result (λ made. AbreastThree IsLockOf c.args.things.items made.0.items made.1.items) (λ made. Abreast (IsFirstAt 0) made.0.items made.1.items)
    (λ made are. firsts_of c.args.things.items made.0.items made.1.items are) c.open_row.ensures
