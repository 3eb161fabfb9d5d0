use Rattle.tick_clock.proofs.Rows.{above_front, next_of_front, each_one_more}
use Rattle.tick_clock.proofs.laws.each_ticket_is_one_more.Goals as goal

pub returns-clause-above : goal.returns-clause-above
returns-clause-above c = above_front

pub returns-clause-next : goal.returns-clause-next
returns-clause-next c = next_of_front

pub returns-clause-of : goal.returns-clause-of
returns-clause-of c = each_one_more
