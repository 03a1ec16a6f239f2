pub mod Table
pub mod Imperative
