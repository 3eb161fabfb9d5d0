pub mod LineLemmas
pub mod NameLemmas
pub mod WalkLemmas
pub mod CutLemmas
pub mod AnswerLemmas
pub mod Exact
pub mod NoneStuck
mod Examples
mod NameExamples
pub mod renaming
pub mod TextLines
pub mod ScenarioLines
pub mod ReplayedToEnd
pub mod ReportLines
