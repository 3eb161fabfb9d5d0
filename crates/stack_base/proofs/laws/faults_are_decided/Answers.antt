use Rattle.stack_base.proofs.FaultLemmas
use Rattle.stack_base.proofs.laws.faults_are_decided.Goals as goal

pub returns : goal.returns
returns c = FaultLemmas.faults_are_decided
