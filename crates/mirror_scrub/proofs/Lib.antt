pub mod CountLemmas
pub mod SeenLemmas
pub mod StretchLemmas
pub mod LegLemmas
pub mod PairLemmas
pub mod LineLemmas
pub mod DiskLemmas
mod Examples
