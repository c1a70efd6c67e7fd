pub mod Answered
pub mod Runs
pub mod Slips
pub mod FieldSlips
pub mod Histories
pub mod Orders
pub mod Lists
pub mod Shapes
