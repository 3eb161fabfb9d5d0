-- One call of an object by a task.
pub mod OnlySeen
pub mod PassAndCalls
pub mod RowSeats
pub mod RowCalls
pub mod DiskChoices
pub mod ObjectCalls
pub mod PoolCalls
pub mod PoolReplies
