pub mod MarkLemmas
pub mod MarkPages
pub mod NameLemmas
pub mod PoolLemmas
pub mod Rounds
pub mod WorkLines
pub mod Rests
pub mod LineLemmas
pub mod OverlapLemmas
pub mod DraftLemmas
pub mod LoopLemmas
mod Fronts
pub mod WholeRefusals
pub mod Unrefused
pub mod Ready
pub mod WorkLemmas
mod RoundsApart
pub mod WorkFits
mod GeneratorLemmas
mod GeneratedFacts
pub mod Said
pub mod Generating
pub mod GeneratedWrites
pub mod GeneratedTexts
