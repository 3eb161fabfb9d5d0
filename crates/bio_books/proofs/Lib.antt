mod Keys
mod Slots
mod ContainersStaySound
mod Numbered
mod Ends
mod Examples
pub mod Sent
