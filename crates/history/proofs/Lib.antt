pub mod Meeting
pub mod Reading
pub mod Told
pub mod Events
pub mod Counts
pub mod Lives
pub mod Steps
pub mod Agreement
