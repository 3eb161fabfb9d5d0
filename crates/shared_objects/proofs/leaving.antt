-- What is left of locks once all seats were joined.
pub mod FoundByNumber
pub mod RowsByNumber
pub mod LeftOfKind
pub mod Unshared
pub mod ClosedByName
pub mod ClosesAs
pub mod JoinedSeats
pub mod LeftRows
pub mod CloseShows
