pub mod Exports
pub mod Filling
pub mod Packing
pub mod Runs
pub mod Methods
