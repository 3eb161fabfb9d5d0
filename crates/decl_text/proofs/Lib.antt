pub mod SplitLemmas
mod Examples
mod FormLemmas
mod WordLemmas
pub mod LineLemmas
pub mod BlankLines
pub mod Unrefused
pub mod Fronts
pub mod Cuts
pub mod Declaring
mod StepLemmas
mod ShortNumbers
pub mod ShownTrees
pub mod FewEntries
pub mod DeclarationsFit
