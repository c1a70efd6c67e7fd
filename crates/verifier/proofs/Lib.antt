pub mod FirstBroken
pub mod WhyFirst
mod Formed
pub mod Rulings
