pub mod Places
pub mod Verdict
pub mod Why
pub mod Loops
