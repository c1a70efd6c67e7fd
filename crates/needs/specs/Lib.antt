pub mod Needs
pub mod Exactly
