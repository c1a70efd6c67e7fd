pub mod Usage
pub mod Counts
pub mod Steps
pub mod Agreement
pub mod Letter
pub mod Pairs
