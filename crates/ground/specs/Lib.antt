pub mod Bytes
pub mod Bounded
pub mod Chain
pub mod Lists
