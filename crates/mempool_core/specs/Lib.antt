pub mod Position
pub mod Facts
pub mod Move
pub mod Taken
pub mod Pool
