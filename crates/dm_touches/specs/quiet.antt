pub mod Marks
pub mod Touch
pub mod Home
pub mod Upward
pub mod inner
