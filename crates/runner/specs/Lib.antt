pub mod Run
pub mod Table
pub mod Memory
pub mod Locks
pub mod Objects
pub mod Fields
pub mod Starts
pub mod Poised
