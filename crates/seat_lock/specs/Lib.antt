pub mod History
pub mod Seats
pub mod Turning
