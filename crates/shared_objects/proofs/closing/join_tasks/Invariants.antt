use Rattle.std.proofs.Common.{◌≤◌, length, vec_capacity}
use Rattle.shared_objects.specs.Joining.{ArePutAway}
use Rattle.shared_objects.proofs.leaving.JoinedSeats.{Fits}
use Rattle.shared_objects.proofs.row_lemmas.GrowingRows.{Part}
use Rattle.shared_objects.proofs.closing.join_tasks.Given as goal

abbrev pub invariant-joining : goal.invariant-joining
invariant-joining l =
    (length l.fn.tasks.items ≤ vec_capacity l.closed)
    × Fits (length l.fn.tasks.items) l.trace
    × Part l.fn.tasks.items l.slot-iterator.rest.items (λ done. ArePutAway (length l.fn.tasks.items) l.locks done l.firsts l.closed.items l.trace)
