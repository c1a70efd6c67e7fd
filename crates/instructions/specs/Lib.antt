pub mod Table
pub mod Limits
