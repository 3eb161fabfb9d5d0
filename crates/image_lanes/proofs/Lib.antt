pub mod CountingLemmas
pub mod LaneLemmas
pub mod WholeLemmas
pub mod SectorLemmas
pub mod Examples
