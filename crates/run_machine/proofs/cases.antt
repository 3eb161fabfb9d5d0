-- Runs that are worked out, event by event.
pub mod OneDisk
pub mod OneWrite
pub mod OneMirror
pub mod MirrorRun
pub mod SplitRun
pub mod RoundsRun
pub mod StuckRun
pub mod NotEnabled
pub mod OpenedRun
mod KeptCases
