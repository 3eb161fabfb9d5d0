use Rattle.seat_lock.proofs.Histories.{continues_on}
use Rattle.seat_lock.proofs.laws.calls_stay.Goals as goal

pub returns : goal.returns
returns g c = continues_on g.row.T-Asked.Denot g.row.T-Told.Denot
