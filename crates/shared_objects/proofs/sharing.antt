-- Opened objects come behind locks, and tasks get their seats.
pub mod LocksOfOpened
pub mod FirstSeats
pub mod FewTasks
pub mod OpenedRows
pub mod SplitSeats
pub mod NewDesks
pub mod TaskRows
pub mod JustShared
pub mod HandedOut
pub mod OpenedPools
pub mod AddingUp
