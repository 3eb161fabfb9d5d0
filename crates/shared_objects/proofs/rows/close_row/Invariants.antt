use Rattle.std.proofs.Common.{◌≤◌, vec_capacity}
use Rattle.shared_objects.specs.Rows.{IsShutAt}
use Rattle.shared_objects.proofs.row_lemmas.PairedRows.{PairsAreAdded}
use Rattle.shared_objects.proofs.rows.close_row.Given as goal

abbrev pub invariant-closing : goal.invariant-closing
invariant-closing g l =
    (vec_capacity l.fn.shut ≤ vec_capacity l.shut)
    × PairsAreAdded (IsShutAt g.T.Thing.plain g.T.Thing.mark g.T.Thing.answers) l.fn.locks.items l.fn.firsts.items l.fn.shut.items
    l.lock-iterator.rest.items l.rest.rest.items l.shut.items
