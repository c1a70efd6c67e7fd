pub mod Opcodes
pub mod Sizes
pub mod Walks
