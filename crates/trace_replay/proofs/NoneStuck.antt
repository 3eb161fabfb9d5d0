-- No replay of a scenario with rescuers is stuck.
use Rattle.std.proofs.Common.{refl, subst}
use Rattle.run_machine.specs.Opened.{scene}
use Rattle.block_core.proofs.stuck.NeverStuck.{no_allowed_state_is_stuck}
use Rattle.plain_core.specs.objects.Ledgers.{ledger_of}
use Rattle.trace_replay.specs.Exact.{NoneIsStuck}
use Rattle.trace_replay.specs.Replay.{IsFinish}
use Rattle.trace_replay.specs.declared.walk.Finish.{Finish}

pub none_is_stuck : NoneIsStuck
none_is_stuck s told replayed can rescuers is stuck =
    let ends = subst (λ (f : Finish). IsFinish (scene s ledger_of) is.state f) stuck is.finish in
    ends.1 (no_allowed_state_is_stuck s ledger_of is.events is.state can.scenario can.allowed rescuers can.reserves can.ordered (λ number. refl) is.run ends.0)
