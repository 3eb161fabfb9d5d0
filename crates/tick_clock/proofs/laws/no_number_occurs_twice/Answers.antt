use Rattle.tick_clock.proofs.Rows.{rising_apart}
use Rattle.tick_clock.proofs.laws.no_number_occurs_twice.Goals as goal

pub returns : goal.returns
returns c = rising_apart
