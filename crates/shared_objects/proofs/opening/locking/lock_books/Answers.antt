use Rattle.std.proofs.lemmas.Result.{IfOk-weaker}
use Rattle.shared_objects.specs.Guards.{guarded}
use Rattle.shared_objects.specs.Sharing.{AreAround}
use Rattle.shared_objects.proofs.sharing.FirstSeats.{round_objects}
use Rattle.shared_objects.proofs.opening.locking.lock_books.Goals as goal

pub returns-clause-round : goal.returns-clause-round
returns-clause-round c =
    IfOk-weaker c.lock_row.result (λ made. AreAround (λ thing. thing) c.in_ok-things.things.items made.0.items) (λ made. AreAround (guarded c.args.common.now.value) c.args.books.items made.0.items)
    (λ made are. round_objects c.args.common.now.value c.args.books.items c.in_ok-things.things.items made.0.items c.in_ok-things.ensures are) c.lock_row.ensures.round
