pub mod Orders
pub mod Ranks
pub mod Numbers
pub mod Judging
pub mod Rows
pub mod Diagnosing
pub mod Reports
