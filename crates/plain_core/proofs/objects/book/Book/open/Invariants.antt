use Rattle.std.proofs.Common.{◌≡◌, replicate, None}
use Rattle.plain_core.proofs.objects.book.Book.open.Given as goal

abbrev pub invariant-loop : goal.invariant-loop
invariant-loop l = l.nodes.items ≡ replicate l.counter None
