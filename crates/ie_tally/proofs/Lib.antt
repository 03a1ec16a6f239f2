pub mod Above
pub mod Folds
