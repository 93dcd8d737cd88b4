pub mod Keeping
pub mod Coming
