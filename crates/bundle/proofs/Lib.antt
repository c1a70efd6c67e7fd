pub mod Container
