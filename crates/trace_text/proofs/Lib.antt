pub mod NumberLemmas
pub mod SplitLemmas
pub mod Readers
pub mod WordLemmas
pub mod NameLemmas
pub mod NameWords
pub mod PoolLemmas
pub mod TaskLemmas
pub mod VerbLemmas
pub mod EventLemmas
mod Examples
