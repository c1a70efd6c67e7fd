pub mod PairBytes
pub mod Shape
pub mod Apart
pub mod Sharing
pub mod Loops
