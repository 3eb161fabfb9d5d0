use Rattle.std.proofs.Common.{[], ◌∷◌}
use Rattle.seat_lock.proofs.lock.SeatLock.serve_in_turn.Given as goal

abbrev pub ghosts-pass_on : goal.ghosts-pass_on
ghosts-pass_on g a = record { calls = (g.T.Thing.asked a.asked.value, g.T.Thing.told a.told.value) ∷ [] }
