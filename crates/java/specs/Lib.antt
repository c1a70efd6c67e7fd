pub mod Opcodes
pub mod Instructions
pub mod Classes
pub mod Walks
