use Rattle.block_core.proofs.sound.Soundness.{every_run_is_sound}
use Rattle.block_core.proofs.laws.every_run_is_sound.Goals as goal

-- src/laws.rt
pub returns : goal.returns
returns c = every_run_is_sound
