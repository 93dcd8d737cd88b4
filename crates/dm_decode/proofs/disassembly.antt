pub mod Standing
pub mod Lines
pub mod Once
