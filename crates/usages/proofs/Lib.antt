pub mod Whole
pub mod Bounds
pub mod Ways
pub mod Reliability
pub mod Letter
pub mod Pairs
