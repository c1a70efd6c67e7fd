pub mod Offsets
pub mod Turns
pub mod Index
pub mod Targets
