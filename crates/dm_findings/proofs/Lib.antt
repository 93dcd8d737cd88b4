pub mod Reports
pub mod Counting
