pub mod Gates
pub mod Hands
pub mod Parting
pub mod Room
pub mod Somes
pub mod Steps
pub mod Visits
pub mod WorkOutcomes
