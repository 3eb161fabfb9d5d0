use Rattle.std.proofs.Common.{◌≡◌, ℕ, []}
use Rattle.seat_lock.specs.declared.view.Phase.TheVariants.{Waiting}
use Rattle.seat_lock.proofs.lock.SeatLock.look_on.Given as goal

abbrev pub invariant-loop : goal.invariant-loop
invariant-loop g l = (l.inner.table_id ≡ l.fn.inner.table_id) × (l.inner.me ≡ l.fn.inner.me) × ((k : ℕ) × (l.inner.me ≡ (record l.fn.inner.me.0 { phase = Waiting k }, [])))
