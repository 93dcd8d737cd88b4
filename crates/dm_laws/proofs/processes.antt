pub mod Written
pub mod Parents
pub mod Blocks
pub mod Vectors
