use Rattle.tick_clock.proofs.Rows.{pass_found, pass_once}
use Rattle.tick_clock.proofs.laws.a_pass_has_each_ticket_once.Goals as goal

pub returns-clause-found : goal.returns-clause-found
returns-clause-found c = pass_found

pub returns-clause-once : goal.returns-clause-once
returns-clause-once c = pass_once
