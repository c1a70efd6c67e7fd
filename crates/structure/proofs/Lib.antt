pub mod Judges
pub mod FirstBroken
pub mod Structured
