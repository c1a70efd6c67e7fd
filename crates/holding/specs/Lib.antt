pub mod Question
pub mod Kept
