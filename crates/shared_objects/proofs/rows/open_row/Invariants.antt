use Rattle.shared_objects.specs.Rows.{AbreastThree, IsLockOf}
use Rattle.shared_objects.proofs.row_lemmas.GrowingRows.{Part}
use Rattle.shared_objects.proofs.rows.open_row.Given as goal

abbrev pub invariant-opening : goal.invariant-opening
invariant-opening g l = Part l.fn.things.items l.entry-iterator.rest.items (λ done. AbreastThree IsLockOf done l.locks.items l.firsts.items)
