use Rattle.std.proofs.Common.{◌≡◌, ◌≤◌, length, vec_capacity}
use Rattle.shared_objects.specs.Rows.{AreChanged, IsSplit}
use Rattle.shared_objects.proofs.rows.split_row.Given as goal

abbrev pub invariant-splitting : goal.invariant-splitting
invariant-splitting g l =
    (length l.seats.items ≡ l.at) × (length l.locks ≤ vec_capacity l.seats) × AreChanged IsSplit l.locks l.fn.firsts.items l.seats.items l.firsts.items
