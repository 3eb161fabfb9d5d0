pub mod Schedule
pub mod Serial
pub mod Turning
pub mod Pools
pub mod Laws
