pub mod Values
pub mod Text
