pub mod ChainLemmas
pub mod Places
pub mod Detached
pub mod SegmentLemmas
pub mod RunLemmas
pub mod Sorted
pub mod Sent
