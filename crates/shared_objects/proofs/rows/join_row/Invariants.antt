use Rattle.std.proofs.Common.{◌≡◌, length}
use Rattle.shared_objects.specs.Rows.{AreChanged, IsJoined}
use Rattle.shared_objects.proofs.row_lemmas.GrowingRows.{Part}
use Rattle.shared_objects.proofs.rows.join_row.Given as goal

abbrev pub invariant-joining : goal.invariant-joining
invariant-joining g l =
    Part l.fn.seats.items l.entry-iterator.rest.items (λ done. (length done ≡ l.at) × AreChanged IsJoined l.locks l.fn.firsts.items done l.firsts.items)
