-- What closed objects leave.
pub mod StackHasNamed
pub mod Falls
pub mod FoundByKey
pub mod Devices
pub mod PoolRows
pub mod EventsOfTasks
pub mod LeftByRun
pub mod TraceOfRun
pub mod MergeOfClosed
