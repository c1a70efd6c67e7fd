pub mod Matching
pub mod Passes
