pub mod Entries
pub mod Fits
pub mod Words
pub mod Shorts
