pub mod Same
pub mod Places
pub mod Searching
pub mod Below
pub mod Shared
pub mod Overlap
pub mod Coverers
