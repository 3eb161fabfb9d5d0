pub mod Dealing
pub mod Hands
pub mod Parts
pub mod Sent
pub mod AllThere
pub mod Sweeps
