pub mod Laid
pub mod Starts
pub mod Order
pub mod Meaning
pub mod Constants
pub mod Cases
