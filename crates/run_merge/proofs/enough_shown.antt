-- What a close of shared objects shows is enough for an ended run.
pub mod BreaksOff
pub mod CallEntries
pub mod TaskCounts
pub mod CallTickets
pub mod DrewEvents
pub mod ClosesAreRuns
pub mod CallEvents
pub mod ServedWithTicket
pub mod TallyLooks
pub mod ObjectHistories
pub mod CalledObjects
pub mod PlaceSums
pub mod RoundsStarted
pub mod SortedByTicket
pub mod NoTicketCalls
pub mod TaskEnds
pub mod LogLeads
