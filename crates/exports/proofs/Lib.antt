pub mod OneFilling
pub mod Turns
pub mod Packing
