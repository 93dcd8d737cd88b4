pub mod Caller
pub mod Uppers
pub mod Functions
pub mod inner
