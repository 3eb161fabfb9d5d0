-- Rows: what stands at each place, and whose calls they have.
pub mod GrowingRows
pub mod PairedRows
pub mod AbreastRows
pub mod MadeOneByOne
pub mod SeatNumbers
pub mod SplitAndJoined
pub mod CallsApart
