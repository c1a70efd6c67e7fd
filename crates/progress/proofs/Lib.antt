pub mod Waits
pub mod Chain
pub mod Progress
