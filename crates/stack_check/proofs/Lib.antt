pub mod Flags
pub mod RefusalLemmas
pub mod FinishLemmas
pub mod LooseLemmas
pub mod StackLemmas
pub mod BuiltLemmas
pub mod NameLemmas
pub mod PoolLemmas
pub mod ScriptLemmas
pub mod BadLemmas
pub mod Passing
pub mod DeviceTallies
pub mod Chains
pub mod DeviceLemmas
pub mod TreeLemmas
pub mod MembersOnce
pub mod SizeBounds
mod Rescuers
mod Lines
