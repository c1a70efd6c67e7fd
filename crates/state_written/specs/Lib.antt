pub mod Written
pub mod Widths
pub mod ReadBack
