use Rattle.block_core.proofs.stuck.NeverStuck.{each_run_goes_on_or_has_ended}
use Rattle.block_core.proofs.laws.each_run_goes_on_or_has_ended.Goals as goal

-- src/laws.rt
pub returns : goal.returns
returns c = each_run_goes_on_or_has_ended
