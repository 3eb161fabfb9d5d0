use Rattle.block_core.proofs.sound.EveryRun.{none_waits_for_itself}
use Rattle.block_core.proofs.laws.none_waits_for_itself.Goals as goal

-- src/laws.rt
pub returns : goal.returns
returns c = none_waits_for_itself
