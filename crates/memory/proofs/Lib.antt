pub mod Tab
pub mod Loops
pub mod Meaning
pub mod Writes
pub mod Frames
