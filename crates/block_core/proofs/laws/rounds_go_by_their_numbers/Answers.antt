use Rattle.block_core.proofs.sound.WritesToldDone.{rounds_start_in_turn, writes_are_done_in_their_round}
use Rattle.block_core.proofs.laws.rounds_go_by_their_numbers.Goals as goal

-- src/laws.rt
pub returns-clause-done : goal.returns-clause-done
returns-clause-done c = writes_are_done_in_their_round

pub returns-clause-starts : goal.returns-clause-starts
returns-clause-starts c = rounds_start_in_turn
