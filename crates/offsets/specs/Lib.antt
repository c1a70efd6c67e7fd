pub mod Offsets
pub mod Handlers
pub mod Targets
pub mod Offenders
pub mod Index
