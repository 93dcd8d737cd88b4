pub mod Lines
pub mod Services
pub mod Supplying
