-- What tasks noted, joined by tickets, are the events of the run.
pub mod RisingLists
pub mod DrawnOnce
pub mod NotedEntries
pub mod NotesOfRun
pub mod WholeLists
