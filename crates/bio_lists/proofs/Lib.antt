pub mod Orders
pub mod Punts
mod Examples
