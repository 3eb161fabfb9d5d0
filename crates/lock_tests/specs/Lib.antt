pub mod Adding
pub mod Drawing
