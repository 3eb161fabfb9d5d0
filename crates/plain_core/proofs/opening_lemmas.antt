pub mod MadeByNumber
pub mod TasksByName
pub mod Opened
pub mod Readable
pub mod Seen
pub mod SlotsRise
pub mod SeenCores
