use Rattle.block_core.proofs.bound.Bounded.{costs_are_charged, no_more_is_spent, events_use_up_charges}
use Rattle.block_core.proofs.laws.events_have_charges.Goals as goal

-- src/laws.rt
pub returns-clause-all : goal.returns-clause-all
returns-clause-all c = costs_are_charged

pub returns-clause-spent : goal.returns-clause-spent
returns-clause-spent c = no_more_is_spent

pub returns-clause-later : goal.returns-clause-later
returns-clause-later c = events_use_up_charges
