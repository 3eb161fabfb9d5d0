pub mod Duties
pub mod Views
pub mod Answers
pub mod Takes
pub mod Submissions
pub mod Moves
pub mod Closing
pub mod Free
