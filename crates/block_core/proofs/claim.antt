pub mod Runnable
pub mod Claim
