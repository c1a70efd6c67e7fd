pub mod Choice
pub mod Asked
pub mod Complete
