pub mod Container
pub mod Program
