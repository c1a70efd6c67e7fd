pub mod Sound
pub mod Calls
pub mod Balance
pub mod Invariant
