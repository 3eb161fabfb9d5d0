pub mod StillOut
