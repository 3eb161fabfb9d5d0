pub mod Books
pub mod Links
pub mod Drops
pub mod Endings
pub mod Views
pub mod Kept
