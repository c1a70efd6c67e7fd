pub mod Rule
pub mod Rules
