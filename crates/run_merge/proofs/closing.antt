-- Shared objects that were closed show an ended run.
pub mod FewTasks
pub mod TicketRows
pub mod EventsAndEntries
pub mod RunUpTo
pub mod NoneRefused
pub mod ClosedRunsEnd
