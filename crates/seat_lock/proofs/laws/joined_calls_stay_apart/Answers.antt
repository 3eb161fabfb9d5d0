use Rattle.seat_lock.proofs.Histories.{parts_continue}
use Rattle.seat_lock.proofs.laws.joined_calls_stay_apart.Goals as goal

pub returns : goal.returns
returns g c = parts_continue g.row.T-Asked.Denot g.row.T-Told.Denot
