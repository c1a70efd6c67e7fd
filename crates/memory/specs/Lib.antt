pub mod Tab
pub mod Words
pub mod Frames
