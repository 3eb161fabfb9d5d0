pub mod Work
pub mod Reading
pub mod Lines
pub mod Marks
pub mod Draft
pub mod Whole
pub mod Fit
pub mod Generated
