pub mod Checks
pub mod Escapes
pub mod Frames
pub mod Reading
pub mod Streams
pub mod Sending
pub mod Laws
pub mod inner
