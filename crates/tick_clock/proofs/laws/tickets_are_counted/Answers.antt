use Rattle.tick_clock.proofs.Rows.{row_counts}
use Rattle.tick_clock.proofs.laws.tickets_are_counted.Goals as goal

pub returns : goal.returns
returns c = row_counts
