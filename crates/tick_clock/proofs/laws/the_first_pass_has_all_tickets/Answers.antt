use Rattle.tick_clock.proofs.Rows.{has_row, pass_greatest, pass_one_more, pass_counts}
use Rattle.tick_clock.proofs.laws.the_first_pass_has_all_tickets.Goals as goal

pub returns-clause-all : goal.returns-clause-all
returns-clause-all c = has_row

pub returns-clause-greatest : goal.returns-clause-greatest
returns-clause-greatest c = pass_greatest

pub returns-clause-one_more : goal.returns-clause-one_more
returns-clause-one_more c = pass_one_more

pub returns-clause-counted : goal.returns-clause-counted
returns-clause-counted c = pass_counts
