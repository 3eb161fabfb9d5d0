-- The merge of histories is the entries of a run.
pub mod TicketOrder
pub mod Picked
pub mod TwoParts
pub mod TallyAlone
pub mod MergeIsRun
