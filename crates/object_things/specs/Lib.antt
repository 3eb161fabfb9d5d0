pub mod Stamps
pub mod Histories
pub mod Books
pub mod Tallies
pub mod Disks
pub mod Lists
pub mod Pools
pub mod Homes
