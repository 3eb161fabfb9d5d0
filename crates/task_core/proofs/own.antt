pub mod PlainLemmas
pub mod PlainTakes
pub mod PlainGives
pub mod PlainCalls
pub mod PlainResizes
pub mod PlainFacts
