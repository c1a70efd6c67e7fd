pub mod Entries
pub mod Rows
pub mod Edges
pub mod Throws
pub mod Rules
pub mod Exactly
pub mod Programs
pub mod Stacks
