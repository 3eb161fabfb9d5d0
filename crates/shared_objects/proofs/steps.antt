-- What a call makes of the task that made it.
pub mod NothingFound
pub mod GlanceStays
pub mod BrokenRests
pub mod EventOrRefused
pub mod TurnsSeen
pub mod ChoicesSeen
