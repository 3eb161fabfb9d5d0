use Rattle.shared_objects.proofs.tickets.CloseTickets.{closes_show_tickets}
use Rattle.shared_objects.proofs.laws.closes_show_tickets.Goals as goal

pub returns : goal.returns
returns c = closes_show_tickets
