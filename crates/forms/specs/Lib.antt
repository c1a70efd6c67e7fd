pub mod Forms
pub mod Columns
