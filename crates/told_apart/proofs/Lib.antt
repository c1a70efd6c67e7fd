pub mod Inverse
pub mod Refusals
pub mod Answers
pub mod Texts
