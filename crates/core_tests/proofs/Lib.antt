pub mod Rescuers
