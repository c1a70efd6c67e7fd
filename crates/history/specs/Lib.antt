pub mod Met
pub mod Event
pub mod Reading
pub mod Meeting
pub mod History
pub mod Agreement
