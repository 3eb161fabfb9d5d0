use Rattle.biostack_tests.proofs.SlowAmong.{IsFrom}
use Rattle.biostack_tests.proofs.slow.among.Given as goal

abbrev pub invariant-loop-member : goal.invariant-loop-member
invariant-loop-member l = IsFrom l.sizes l.fn.sector l.member l.at
