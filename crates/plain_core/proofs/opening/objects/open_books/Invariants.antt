use Rattle.std.proofs.Common.{◌≡◌}
use Rattle.plain_core.specs.opening.Opening.{new_books}
use Rattle.plain_core.proofs.opening.objects.open_books.Given as goal

abbrev pub invariant-opening : goal.invariant-opening
invariant-opening l = l.books.items ≡ new_books l.routes.places l.writer
