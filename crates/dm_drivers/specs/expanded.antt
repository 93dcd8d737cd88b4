pub mod Caller
pub mod Functions
pub mod inner
