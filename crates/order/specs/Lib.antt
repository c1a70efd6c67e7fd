pub mod Order
pub mod Places
pub mod Verdict
pub mod Loops
