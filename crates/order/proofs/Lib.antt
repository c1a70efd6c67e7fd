pub mod Order
pub mod FirstBroken
pub mod Accepts
pub mod Agrees
