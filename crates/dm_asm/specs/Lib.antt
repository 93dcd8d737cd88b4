pub mod Lines
pub mod Labels
pub mod Codes
pub mod Programs
pub mod Laws
pub mod inner
