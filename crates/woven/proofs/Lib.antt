pub mod Standing
pub mod Woven
pub mod Few
