pub mod Gate
pub mod Steps
