pub mod Conditions
pub mod Places
pub mod Structure
pub mod Loops
