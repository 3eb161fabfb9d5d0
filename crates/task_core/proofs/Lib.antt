pub mod TableLemmas
pub mod PoolLemmas
pub mod StageBooks
pub mod Keeping
pub mod EventlessSteps
pub mod DisksOfKinds
pub mod opened
pub mod own
