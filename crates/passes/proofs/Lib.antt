pub mod Halves
pub mod Two
pub mod Follows
pub mod Writes
pub mod Clears
pub mod Raises
pub mod Marks
