pub mod Texts
pub mod Closing
