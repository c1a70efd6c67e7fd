pub mod Over
pub mod Sums
pub mod Lengths
