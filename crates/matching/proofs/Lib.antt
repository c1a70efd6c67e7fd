pub mod Scans
pub mod Edges
mod Same
