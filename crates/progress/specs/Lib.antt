pub mod Progress
pub mod Waiting
