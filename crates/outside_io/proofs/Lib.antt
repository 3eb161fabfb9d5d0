pub mod PutLemmas
pub mod SaysLemmas
pub mod TakeLemmas
