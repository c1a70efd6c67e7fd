pub mod Choices
pub mod Shapes
pub mod Complete
pub mod Slots
