pub mod Rises
pub mod Works
pub mod Means
