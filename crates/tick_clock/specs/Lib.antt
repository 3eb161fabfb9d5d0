pub mod Tickets
pub mod Ticking
