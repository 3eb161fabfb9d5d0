pub mod Tables
pub mod ObjectsOf
pub mod Plains
pub mod Resizing
pub mod PlainSteps
pub mod Leaving
pub mod opened
