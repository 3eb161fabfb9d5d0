use Rattle.std.proofs.Common.{false}
use Rattle.biostack_top.proofs.SceneLemmas.{rest_begins}
use Rattle.biostack_tests.proofs.scenes.read.Goals as goal

-- the declarations end at the first write or `sync` line
pub read_work-requires-clause-work : goal.read_work-requires-clause-work
read_work-requires-clause-work c = rest_begins false c.args.text.now c.in_ok-decl.decl c.in_ok-accepted.accepted c.in_ok-decl.ensures c.in_ok-accepted.ensures

pub returns-clause-read : goal.returns-clause-read
returns-clause-read c = record {
  text = c.args.text.now;
  begins = rest_begins false c.args.text.now c.in_ok-decl.decl c.in_ok-accepted.accepted c.in_ok-decl.ensures c.in_ok-accepted.ensures;
  reads = c.in_ok-work.ensures.read;
  served = c.in_ok-work.ensures.served;
}
