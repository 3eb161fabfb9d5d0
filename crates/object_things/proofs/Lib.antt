mod PoolCalls
mod Pops
pub mod TicketsRise
pub mod Looking
pub mod Refused
pub mod SpentMarks
pub mod Counting
pub mod Adding
