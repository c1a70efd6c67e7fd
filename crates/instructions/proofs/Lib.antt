pub mod Table
mod Limits
