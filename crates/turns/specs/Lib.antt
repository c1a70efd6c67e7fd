pub mod Stepped
pub mod Numbers
pub mod Answers
pub mod Faults
pub mod Waits
pub mod Moves
pub mod Exec
pub mod Turns
