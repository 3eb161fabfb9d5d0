pub mod Parsing
pub mod Uses
pub mod Turns
pub mod Standing
pub mod Walks
pub mod Rows
pub mod ParserAnswers
pub mod Few
mod Examples
