pub mod Attribute
pub mod Written
pub mod Taking
pub mod Meaning
pub mod Starts
pub mod Cases
