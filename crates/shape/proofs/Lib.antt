pub mod FirstBroken
pub mod Entries
pub mod Places
pub mod Readable
pub mod Sharing
