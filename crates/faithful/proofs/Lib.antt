pub mod Rows
pub mod Stacks
pub mod Moves
pub mod Carried
pub mod Faithful
pub mod Runs
pub mod Witness
