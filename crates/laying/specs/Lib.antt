pub mod Given
pub mod Lengths
pub mod Laid
pub mod Laying
pub mod Loops
