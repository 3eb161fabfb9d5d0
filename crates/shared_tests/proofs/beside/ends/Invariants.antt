use Rattle.std.proofs.Common.{◌≡◌}
use Rattle.shared_tests.proofs.beside.ends.Given as goal

-- its seats are of the locks still
abbrev pub invariant-stepping : goal.invariant-stepping
invariant-stepping g l = l.ran.home ≡ l.locks
