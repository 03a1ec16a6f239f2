pub mod Cutting
pub mod Running
pub mod Dividing
pub mod Laying
pub mod Starting
