pub mod Loads
pub mod Lines
pub mod Filled
pub mod Checked
pub mod Ran
pub mod Reached
