pub mod InvariantAtStart
pub mod StartTotals
pub mod StagesAtStart
pub mod WritesAtStart
pub mod TallyAtStart
pub mod PostsAtStart
pub mod RoomAtStart
