pub mod Naming
pub mod Ending
