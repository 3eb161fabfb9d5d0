mod Examples
pub mod LineLemmas
pub mod PoolLemmas
pub mod LeftLemmas
