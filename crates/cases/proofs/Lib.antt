pub mod Judgement
pub mod Cases
