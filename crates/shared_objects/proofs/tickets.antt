-- The tickets of a clock, by the calls that drew them.
pub mod CallOwners
pub mod TicketsOfCalls
pub mod CloseTickets
