pub mod Meanings
pub mod Names
pub mod Texts
pub mod Reports
pub mod Processes
pub mod Stops
