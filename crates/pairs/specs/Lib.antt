pub mod Answer
pub mod Rises
pub mod Works
