pub mod SlowAmong
pub mod SlowSteps
pub mod SlowLegs
