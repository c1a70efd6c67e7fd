pub mod Belongs
pub mod Words
